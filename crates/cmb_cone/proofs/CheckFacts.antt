-- No check stands in a part of a design.
use Rattle.std.proofs.Common.{◌≡◌, ℕ, zero, suc, ◌+◌, ◌<◌, ◌≤◌, List, [], ◌∷◌, ◌++◌, length, get_or, refl, sym, ap, ◌∙◌, arith, Option, Some, None, Bool, true, false, cond, ◌⊎◌, inl, inr}
use Rattle.std.proofs.lemmas.Bool.{cases_lt}
use Rattle.std.specs.Prelude.{◌&&◌, ◌||◌, ◌==◌, not, is_none, bytes_eq}
use Rattle.std.specs.List.{filter, list_any}
use Rattle.std.specs.Option.{option_map_or}
use Rattle.std.proofs.lemmas.List.{append-nil, length-map}
use Rattle.std.proofs.lemmas.List.Elements.{filter-append}
use Rattle.cmb_netlist.specs.declared.netlist.Driver.{Driver}
use Rattle.cmb_netlist.specs.declared.netlist.Driver.TheVariants.{Input, Gate, Flop}
use Rattle.cmb_netlist.specs.Netlist.{Netlist, IsNetlist, driver_of, number_of, pins_of}
use Rattle.cmb_design_model.specs.Checks.{Check, check, checks_after, first_fault, rows_checks}
use Rattle.cmb_design_model.specs.Design.{Design}
use Rattle.cmb_design_model.specs.Nets.{driver_named, is_at, is_flop, is_input, is_within}
use Rattle.cmb_design_model.specs.Part.{has_net, has_delayed, design_on}
use Rattle.cmb_design_model.specs.Rows.{same_delayed, has_pin, delayed_checks, delay_row_checks, stimulus_row_checks, clock_row_checks, initial_row_checks}
use Rattle.cmb_design_model.specs.Settings.{any_below, is_bad_clock, is_named, is_unclocked, lacks_clock, setting_checks, design_checks}
use Rattle.cmb_design_model.specs.declared.fault.DesignFault.{DesignFault}
use Rattle.cmb_design_model.specs.declared.rows.Clock.{Clock}
use Rattle.cmb_design_model.specs.declared.rows.Delayed.{Delayed}
use Rattle.cmb_design_model.specs.declared.rows.Delayed.TheVariants.{Pin, Net, Kind as ByKind}
use Rattle.cmb_design_model.specs.declared.rows.DelayRow.{DelayRow}
use Rattle.cmb_design_model.specs.declared.rows.StimulusRow.{StimulusRow}
use Rattle.cmb_design_model.specs.declared.rows.ClockRow.{ClockRow}
use Rattle.cmb_design_model.specs.declared.rows.InitialRow.{InitialRow}
use Rattle.cmb_design_model.proofs.CheckFacts.{Checks, first_fault-none}
use Rattle.cmb_cone.specs.Closed.{IsClosed}
use Rattle.cmb_cone.specs.Restriction.{IsPart, with_nets}
use Rattle.cmb_cone.proofs.ValueFacts.{driver_read, names_long}
use Rattle.cmb_cone.proofs.RowFacts.{any_kept, none_kept, some_is, some_at, number_there, at_same}

-- ---- lists of checks of which none stands

pub none_both : (xs ys : List Check) → first_fault (xs ++ ys) ≡ None → (first_fault xs ≡ None) × (first_fault ys ≡ None)
unfolding first_fault
none_both [] ys h = (refl, h)
none_both (c ∷ cs) ys h = by c.stands h (none_both cs ys)
  where
    by : (b : Bool) → cond b (Some c.answer) (first_fault (cs ++ ys)) ≡ None → (first_fault (cs ++ ys) ≡ None → (first_fault cs ≡ None) × (first_fault ys ≡ None))
        → (cond b (Some c.answer) (first_fault cs) ≡ None) × (first_fault ys ≡ None)
    by true h more = cc h
    by false h more = more h

none_append : (xs ys : List Check) → first_fault xs ≡ None → first_fault ys ≡ None → first_fault (xs ++ ys) ≡ None
none_append xs ys a b = first_fault-none xs ys a ∙ b

none_head : (answer : DesignFault) (stands : Bool) (cs : List Check) → first_fault (check answer stands ∷ cs) ≡ None → (stands ≡ false) × (first_fault cs ≡ None)
unfolding first_fault
none_head answer true cs h = cc h
none_head answer false cs h = (refl, h)

none_cons : (answer : DesignFault) (stands : Bool) (cs : List Check) → stands ≡ false → first_fault cs ≡ None → first_fault (check answer stands ∷ cs) ≡ None
unfolding first_fault
none_cons answer true cs a b = cc a
none_cons answer false cs a b = b

none_nil : first_fault [] ≡ None
unfolding first_fault
none_nil = refl

-- rows that are kept pass, where each kept one passes after those that were kept before it
rows_kept : {X : Type 0} (checks others : Checks X) (keep : X → Bool)
    → ((n m : ℕ) (earlier : List X) (x : X) → keep x ≡ true → first_fault (checks n earlier x) ≡ None → first_fault (others m (filter keep earlier) x) ≡ None)
    → (n m : ℕ) (earlier rows : List X) → first_fault (checks_after checks n earlier rows) ≡ None → first_fault (checks_after others m (filter keep earlier) (filter keep rows)) ≡ None
unfolding checks_after
rows_kept checks others keep each n m earlier [] h = none_nil
rows_kept {X} checks others keep each n m earlier (r ∷ rs) h = by (keep r) refl (λ k passes. rows_kept checks others keep each (n + 1) k (earlier ++ r ∷ []) rs passes)
  where
    split : (first_fault (checks n earlier r) ≡ None) × (first_fault (checks_after checks (n + 1) (earlier ++ r ∷ []) rs) ≡ None)
    split = none_both (checks n earlier r) (checks_after checks (n + 1) (earlier ++ r ∷ []) rs) h

    by : (b : Bool) → keep r ≡ b
        → ((k : ℕ) → first_fault (checks_after checks (n + 1) (earlier ++ r ∷ []) rs) ≡ None → first_fault (checks_after others k (filter keep (earlier ++ r ∷ [])) (filter keep rs)) ≡ None)
        → first_fault (checks_after others m (filter keep earlier) (cond b (r ∷ filter keep rs) (filter keep rs))) ≡ None
    by true e more =
        let f : filter keep (earlier ++ r ∷ []) ≡ filter keep earlier ++ r ∷ [] = filter-append keep earlier (r ∷ []) ∙ ap (λ b. filter keep earlier ++ cond b (r ∷ []) []) e in
        none_append (others m (filter keep earlier) r) (checks_after others (m + 1) (filter keep earlier ++ r ∷ []) (filter keep rs)) (each n m earlier r e split.0) (rw f at (more (m + 1) split.1))
    by false e more =
        let f : filter keep (earlier ++ r ∷ []) ≡ filter keep earlier = filter-append keep earlier (r ∷ []) ∙ ap (λ b. filter keep earlier ++ cond b (r ∷ []) []) e ∙ append-nil (filter keep earlier) in
        rw f at (more m split.1)

-- ---- a test of all numbers below another

none_below : (test : ℕ → Bool) (n k : ℕ) → any_below test n ≡ false → k < n → test k ≡ false
unfolding any_below
none_below test zero k h within = absurd (omega arith)
none_below test (suc n) k h within = by (any_below test n) refl (test n) refl h (none_below test n k)
  where
    by : (a : Bool) → any_below test n ≡ a → (b : Bool) → test n ≡ b → (a || b) ≡ false → (any_below test n ≡ false → k < n → test k ≡ false) → test k ≡ false
    by true e b f h more = cc h
    by false e true f h more = cc h
    by false e false f h more = here (cases_lt k n)
      where
        here : (k < n) ⊎ (n ≤ k) → test k ≡ false
        here (inl l) = more e l
        here (inr l) = let g : k ≡ n = omega arith in ap test g ∙ f

below_none : (test : ℕ → Bool) (n : ℕ) → ((k : ℕ) → k < n → test k ≡ false) → any_below test n ≡ false
unfolding any_below
below_none test zero h = refl
below_none test (suc n) h =
    let a : any_below test n ≡ false = below_none test n (λ k l. h k (omega arith)) in
    let b : test n ≡ false = h n (omega arith) in
    rw (a, b) refl

input_kept : (f : ℕ → ℕ) (driver : Driver) → is_input (with_nets f driver) ≡ is_input driver
input_kept f Input = refl
input_kept f (Gate kind operands) = refl
input_kept f (Flop source) = refl

flop_kept : (f : ℕ → ℕ) (driver : Driver) → is_flop (with_nets f driver) ≡ is_flop driver
flop_kept f Input = refl
flop_kept f (Gate kind operands) = refl
flop_kept f (Flop source) = refl

pins_kept : (f : ℕ → ℕ) (driver : Driver) → length (pins_of (with_nets f driver)) ≡ length (pins_of driver)
pins_kept f Input = refl
pins_kept f (Gate kind operands) = length-map operands f
pins_kept f (Flop source) = refl

module _ (whole part : Netlist) (nets : List ℕ) (closed : IsClosed whole nets) (is : IsPart whole nets part) (lawful : IsNetlist whole) (sound : IsNetlist part) where
  -- a test of the driver of a net that the part has
  named : (test : Driver → Bool) → ((f : ℕ → ℕ) (driver : Driver) → test (with_nets f driver) ≡ test driver) → (name : List ℕ) → has_net part name ≡ true → driver_named part test name ≡ driver_named whole test name
  named test kept name has =
      let k = some_is (number_of part name) has in
      let there = number_there whole part nets closed is lawful sound name k.0 k.1 in
      ap (λ o. option_map_or (λ net. test (driver_of part net)) o false) k.1
      ∙ sym (kept (λ i. get_or nets i 0) (driver_of part k.0)) ∙ ap test (driver_read whole part nets is sound k.0 there.0)
      ∙ sym (ap (λ o. option_map_or (λ net. test (driver_of whole net)) o false) there.1)

  known : (name : List ℕ) → has_net part name ≡ true → is_none (number_of part name) ≡ false
  known name has = ap not has

  -- the checks of a row about a net: it is known, has no such row yet, and its driver isn't a wrong one
  named-pass : (u r w u' r' w' : DesignFault) (name : List ℕ) (repeated wrong again still : Bool) → has_net part name ≡ true → (repeated ≡ false → again ≡ false) → still ≡ wrong
      → first_fault (check u (is_none (number_of whole name)) ∷ check r repeated ∷ check w wrong ∷ []) ≡ None
      → first_fault (check u' (is_none (number_of part name)) ∷ check r' again ∷ check w' still ∷ []) ≡ None
  named-pass u r w u' r' w' name repeated wrong again still has once same h =
      let a = none_head _ (is_none (number_of whole name)) _ h in
      let b = none_head _ repeated _ a.1 in
      let c = none_head _ wrong _ b.1 in
      none_cons _ (is_none (number_of part name)) _ (known name has)
      (none_cons _ again _ (once b.0)
      (none_cons _ still _ (same ∙ c.0) none_nil))

  delayed-pass : (n m : ℕ) (repeated again : Bool) (what : Delayed) → has_delayed part what ≡ true → (repeated ≡ false → again ≡ false)
      → first_fault (delayed_checks whole n repeated what) ≡ None → first_fault (delayed_checks part m again what) ≡ None
  unfolding delayed_checks
  delayed-pass n m repeated again (ByKind cell) has once h =
      let a = none_head _ repeated _ h in
      none_cons _ again _ (once a.0) none_nil
  delayed-pass n m repeated again (Net name) has once h =
      named-pass _ _ _ _ _ _ name repeated (driver_named whole is_input name) again (driver_named part is_input name) has once (named is_input input_kept name has) h
  delayed-pass n m repeated again (Pin name pin) has once h =
      let a = none_head _ (is_none (number_of whole name)) _ h in
      let b = none_head _ repeated _ a.1 in
      let c = none_head _ (driver_named whole is_input name) _ b.1 in
      let d = none_head _ (not (has_pin whole name pin)) _ c.1 in
      none_cons _ (is_none (number_of part name)) _ (known name has)
      (none_cons _ again _ (once b.0)
      (none_cons _ (driver_named part is_input name) _ (named is_input input_kept name has ∙ c.0)
      (none_cons _ (not (has_pin part name pin)) _
      (ap not (named (λ driver. is_within 1 (length (pins_of driver)) pin) (λ f driver. ap (λ k. is_within 1 k pin) (pins_kept f driver)) name has) ∙ d.0) none_nil)))

  delays-pass : (rows : List DelayRow) → first_fault (rows_checks (delay_row_checks whole) rows) ≡ None → first_fault (rows_checks (delay_row_checks part) (filter (λ row. has_delayed part row.what) rows)) ≡ None
  unfolding delay_row_checks
  delays-pass rows h = rows_kept (delay_row_checks whole) (delay_row_checks part) (λ row. has_delayed part row.what)
      (λ n m earlier row has pass. delayed-pass n m _ _ row.what has (none_kept (λ other. same_delayed other.what row.what) (λ (row : DelayRow). has_delayed part row.what) earlier) pass)
      2 2 [] rows h

  stimuli-pass : (rows : List StimulusRow) → first_fault (rows_checks (stimulus_row_checks whole) rows) ≡ None → first_fault (rows_checks (stimulus_row_checks part) (filter (λ row. has_net part row.net) rows)) ≡ None
  unfolding stimulus_row_checks
  stimuli-pass rows h = rows_kept (stimulus_row_checks whole) (stimulus_row_checks part) (λ row. has_net part row.net)
      (λ n m earlier row has pass.
      let again : StimulusRow → Bool = λ other. bytes_eq other.net row.net && other.tick == row.tick in
      named-pass _ _ _ _ _ _ row.net (list_any again earlier) (not (driver_named whole is_input row.net))
      (list_any again (filter (λ row. has_net part row.net) earlier)) (not (driver_named part is_input row.net))
      has (none_kept again (λ (row : StimulusRow). has_net part row.net) earlier) (ap not (named is_input input_kept row.net has)) pass)
      2 2 [] rows h

  clocks-pass : (rows : List ClockRow) → first_fault (rows_checks (clock_row_checks whole) rows) ≡ None → first_fault (rows_checks (clock_row_checks part) (filter (λ row. has_net part row.net) rows)) ≡ None
  unfolding clock_row_checks
  clocks-pass rows h = rows_kept (clock_row_checks whole) (clock_row_checks part) (λ row. has_net part row.net)
      (λ n m earlier row has pass.
      let again : ClockRow → Bool = λ other. bytes_eq other.net row.net in
      named-pass _ _ _ _ _ _ row.net (list_any again earlier) (not (driver_named whole is_flop row.net))
      (list_any again (filter (λ row. has_net part row.net) earlier)) (not (driver_named part is_flop row.net))
      has (none_kept again (λ (row : ClockRow). has_net part row.net) earlier) (ap not (named is_flop flop_kept row.net has)) pass)
      2 2 [] rows h

  initial-pass : (rows : List InitialRow) → first_fault (rows_checks (initial_row_checks whole) rows) ≡ None → first_fault (rows_checks (initial_row_checks part) (filter (λ row. has_net part row.net) rows)) ≡ None
  unfolding initial_row_checks
  initial-pass rows h = rows_kept (initial_row_checks whole) (initial_row_checks part) (λ row. has_net part row.net)
      (λ n m earlier row has pass.
      let again : InitialRow → Bool = λ other. bytes_eq other.net row.net in
      named-pass _ _ _ _ _ _ row.net (list_any again earlier) (not (driver_named whole is_flop row.net))
      (list_any again (filter (λ row. has_net part row.net) earlier)) (not (driver_named part is_flop row.net))
      has (none_kept again (λ (row : InitialRow). has_net part row.net) earlier) (ap not (named is_flop flop_kept row.net has)) pass)
      2 2 [] rows h

  unclocked-same : (rows : List ClockRow) (i : ℕ) → i < length nets → is_unclocked part (filter (λ row. has_net part row.net) rows) i ≡ is_unclocked whole rows (get_or nets i 0)
  unclocked-same rows i within =
      let a : is_flop (driver_of part i) ≡ is_flop (driver_of whole (get_or nets i 0)) = sym (flop_kept (λ k. get_or nets k 0) (driver_of part i)) ∙ ap is_flop (driver_read whole part nets is sound i within) in
      let b : is_named part (filter (λ row. has_net part row.net) rows) i ≡ is_named whole rows (get_or nets i 0) =
      any_kept (λ (row : ClockRow). is_at (number_of part row.net) i) (λ (row : ClockRow). is_at (number_of whole row.net) (get_or nets i 0)) (λ (row : ClockRow). has_net part row.net)
      (λ row. at_same whole part nets closed is lawful sound row.net i within) (λ row h. some_at _ i h) rows in
      ap (λ f. f && not (is_named part (filter (λ row. has_net part row.net) rows) i)) a ∙ ap (λ g. is_flop (driver_of whole (get_or nets i 0)) && not g) b

  clock_lacks : (clock : Option Clock) (rows : List ClockRow) → lacks_clock whole clock rows ≡ false → lacks_clock part clock (filter (λ row. has_net part row.net) rows) ≡ false
  clock_lacks (Some clock) rows h = refl
  clock_lacks None rows h = below_none _ _ (λ i within.
      let long = names_long whole part nets is in
      let known : i < length nets = omega (arith, within, long) in
      unclocked-same rows i known ∙ none_below (is_unclocked whole rows) (length whole.names) (get_or nets i 0) h (closed.within i 0 known))

  settings-pass : (horizon : ℕ) (clock : Option Clock) (rows : List ClockRow) → first_fault (setting_checks whole horizon clock rows) ≡ None → first_fault (setting_checks part horizon clock (filter (λ row. has_net part row.net) rows)) ≡ None
  unfolding setting_checks
  settings-pass horizon clock rows h =
      let a = none_head _ (not (is_within 1 1000000 horizon)) _ h in
      let b = none_head _ (is_bad_clock clock) _ a.1 in
      let c = none_head _ (lacks_clock whole clock rows) _ b.1 in
      none_cons _ (not (is_within 1 1000000 horizon)) _ a.0
      (none_cons _ (is_bad_clock clock) _ b.0
      (none_cons _ (lacks_clock part clock (filter (λ row. has_net part row.net) rows)) _ (clock_lacks clock rows c.0) none_nil))

pub part-passes : (design : Design) (part : Netlist) (nets : List ℕ) → IsClosed design.netlist nets → IsPart design.netlist nets part → IsNetlist design.netlist → IsNetlist part
    → first_fault (design_checks design) ≡ None → first_fault (design_checks (design_on design part)) ≡ None
part-passes design part nets closed is lawful sound h =
    let a = none_both (setting_checks design.netlist design.horizon design.clock design.clocks) _ h in
    let b = none_both (rows_checks (delay_row_checks design.netlist) design.delays) _ a.1 in
    let c = none_both (rows_checks (stimulus_row_checks design.netlist) design.stimuli) _ b.1 in
    let d = none_both (rows_checks (clock_row_checks design.netlist) design.clocks) (rows_checks (initial_row_checks design.netlist) design.initial) c.1 in
    none_append _ _ (settings-pass design.netlist part nets closed is lawful sound design.horizon design.clock design.clocks a.0)
    (none_append _ _ (delays-pass design.netlist part nets closed is lawful sound design.delays b.0)
    (none_append _ _ (stimuli-pass design.netlist part nets closed is lawful sound design.stimuli c.0)
    (none_append _ _ (clocks-pass design.netlist part nets closed is lawful sound design.clocks d.0)
    (initial-pass design.netlist part nets closed is lawful sound design.initial d.1))))
