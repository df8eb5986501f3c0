-- What the rows say of a part's nets is what they say of the whole's.
use Rattle.std.proofs.Common.{◌≡◌, ℕ, zero, suc, ◌<◌, List, [], ◌∷◌, length, get_or, refl, sym, ap, ◌∙◌, arith, Option, Some, None, Bool, true, false, cond}
use Rattle.std.specs.Prelude.{◌&&◌, ◌||◌, ◌==◌, find, option_map, is_some, unwrap_or, max}
use Rattle.std.specs.Option.{option_or}
use Rattle.std.specs.List.{filter, list_any}
use Rattle.std.proofs.lemmas.List.{get_or-map}
use Rattle.cmb_wave.specs.declared.level.Level.TheVariants.{X}
use Rattle.cmb_netlist.specs.declared.netlist.Driver.{Driver}
use Rattle.cmb_netlist.specs.declared.netlist.Driver.TheVariants.{Input, Gate, Flop}
use Rattle.cmb_netlist.specs.Netlist.{Netlist, IsNetlist, driver_of, name_of, number_of}
use Rattle.cmb_netlist.proofs.Names.{number_name, number-name_of}
use Rattle.cmb_design_model.specs.Design.{Design}
use Rattle.cmb_design_model.specs.Nets.{driver_cell, is_at}
use Rattle.cmb_design_model.specs.Part.{has_net, has_delayed, design_on}
use Rattle.cmb_design_model.specs.Timing.{clock_of_row, level_of_row}
use Rattle.cmb_design_model.specs.Timing.{is_of_pin, is_of_net, is_of_kind, delay_in, delay_by, level_by, row_level, common_clock, clock_of, initial_level}
use Rattle.cmb_design_model.specs.declared.rows.Delayed.{Delayed}
use Rattle.cmb_design_model.specs.declared.rows.Delayed.TheVariants.{Pin, Net, Kind as ByKind}
use Rattle.cmb_design_model.specs.declared.rows.DelayRow.{DelayRow}
use Rattle.cmb_design_model.specs.declared.rows.StimulusRow.{StimulusRow}
use Rattle.cmb_design_model.specs.declared.rows.ClockRow.{ClockRow}
use Rattle.cmb_design_model.specs.declared.rows.InitialRow.{InitialRow}
use Rattle.cmb_design_model.proofs.RowFacts.{is_at-true, is_at-same, same_test}
use Rattle.cmb_cone.specs.Closed.{IsClosed}
use Rattle.cmb_cone.specs.Restriction.{IsPart, with_nets}
use Rattle.cmb_cone.proofs.ValueFacts.{driver_read, names_long}

-- what passes a test is found among the kept ones, where it is kept
pub find_kept : {X : Type 0} (p q keep : X → Bool) → ((x : X) → p x ≡ q x) → ((x : X) → p x ≡ true → keep x ≡ true) → (xs : List X) → find p (filter keep xs) ≡ find q xs
find_kept p q keep same kept [] = refl
find_kept p q keep same kept (x ∷ xs) = by (p x) refl (keep x) refl (find_kept p q keep same kept xs)
  where
    by : (a : Bool) → p x ≡ a → (b : Bool) → keep x ≡ b → find p (filter keep xs) ≡ find q xs → find p (cond b (x ∷ filter keep xs) (filter keep xs)) ≡ cond (q x) (Some x) (find q xs)
    by true e true f more = let g : q x ≡ true = sym (same x) ∙ e in rw (e, g) refl
    by true e false f more = cc (kept x e)
    by false e true f more = let g : q x ≡ false = sym (same x) ∙ e in rw (e, g) more
    by false e false f more = let g : q x ≡ false = sym (same x) ∙ e in rw g more

pub any_kept : {X : Type 0} (p q keep : X → Bool) → ((x : X) → p x ≡ q x) → ((x : X) → p x ≡ true → keep x ≡ true) → (xs : List X) → list_any p (filter keep xs) ≡ list_any q xs
any_kept p q keep same kept [] = refl
any_kept p q keep same kept (x ∷ xs) = by (p x) refl (keep x) refl (any_kept p q keep same kept xs)
  where
    by : (a : Bool) → p x ≡ a → (b : Bool) → keep x ≡ b → list_any p (filter keep xs) ≡ list_any q xs → list_any p (cond b (x ∷ filter keep xs) (filter keep xs)) ≡ (q x || list_any q xs)
    by true e true f more = let g : q x ≡ true = sym (same x) ∙ e in rw (e, g) refl
    by true e false f more = cc (kept x e)
    by false e true f more = let g : q x ≡ false = sym (same x) ∙ e in rw (e, g) more
    by false e false f more = let g : q x ≡ false = sym (same x) ∙ e in rw g more

-- none passes among the kept ones, where none does at all
pub none_kept : {X : Type 0} (p keep : X → Bool) (xs : List X) → list_any p xs ≡ false → list_any p (filter keep xs) ≡ false
none_kept p keep [] none = refl
none_kept p keep (x ∷ xs) none = by (p x) refl (keep x) none (none_kept p keep xs)
  where
    by : (a : Bool) → p x ≡ a → (b : Bool) → (a || list_any p xs) ≡ false → (list_any p xs ≡ false → list_any p (filter keep xs) ≡ false) → list_any p (cond b (x ∷ filter keep xs) (filter keep xs)) ≡ false
    by true e b none more = cc none
    by false e true none more = rw e (more none)
    by false e false none more = more none

pub some_is : (o : Option ℕ) → is_some o ≡ true → (k : ℕ) × (o ≡ Some k)
some_is None h = cc h
some_is (Some k) h = (k, refl)

pub some_at : (o : Option ℕ) (k : ℕ) → is_at o k ≡ true → is_some o ≡ true
some_at o k h = ap is_some (is_at-true o k h)

pub both_left : (a b : Bool) → (a && b) ≡ true → a ≡ true
both_left true b h = refl
both_left false b h = cc h

pub cell_kept : (f : ℕ → ℕ) (driver : Driver) → driver_cell (with_nets f driver) ≡ driver_cell driver
cell_kept f Input = refl
cell_kept f (Gate kind operands) = refl
cell_kept f (Flop source) = refl

module _ (whole part : Netlist) (nets : List ℕ) (closed : IsClosed whole nets) (is : IsPart whole nets part) (lawful : IsNetlist whole) (sound : IsNetlist part) where
  abbrev original : ℕ → ℕ
  original i = get_or nets i 0

  pub net_within : (i : ℕ) → i < length nets → original i < length whole.names
  net_within i within = closed.within i 0 within

  name_read : (i : ℕ) → i < length nets → name_of part i ≡ name_of whole (original i)
  name_read i within = ap (λ ns. get_or ns i []) is.names ∙ get_or-map (name_of whole) nets i 0 [] within

  -- a name that the part has is that of the same net in the whole
  pub number_there : (name : List ℕ) (i : ℕ) → number_of part name ≡ Some i → (i < length nets) × (number_of whole name ≡ Some (original i))
  number_there name i h =
      let found = number_name part name i h in
      let long = names_long whole part nets is in
      let within : i < length nets = omega (arith, found.0, long) in
      let same : name_of whole (original i) ≡ name = sym (name_read i within) ∙ found.1 in
      (within, ap (number_of whole) (sym same) ∙ number-name_of whole (original i) lawful.different_names (net_within i within))

  number_here : (name : List ℕ) (i : ℕ) → i < length nets → number_of whole name ≡ Some (original i) → number_of part name ≡ Some i
  number_here name i within h =
      let found = number_name whole name (original i) h in
      let long = names_long whole part nets is in
      let same : name_of part i ≡ name = name_read i within ∙ found.1 in
      ap (number_of part) (sym same) ∙ number-name_of part i sound.different_names (omega (arith, long))

  pub at_same : (name : List ℕ) (i : ℕ) → i < length nets → is_at (number_of part name) i ≡ is_at (number_of whole name) (original i)
  at_same name i within = same_test _ _
      (λ h. is_at-same _ (original i) (number_there name i (is_at-true _ i h)).1)
      (λ h. is_at-same _ i (number_here name i within (is_at-true _ (original i) h)))

  -- ---- delays

  pin_same : (i pin : ℕ) → i < length nets → (what : Delayed) → is_of_pin part i pin what ≡ is_of_pin whole (original i) pin what
  pin_same i pin within (Pin name place) = ap (λ b. b && (place == pin)) (at_same name i within)
  pin_same i pin within (Net name) = refl
  pin_same i pin within (ByKind cell) = refl

  pin_kept : (i pin : ℕ) (what : Delayed) → is_of_pin part i pin what ≡ true → has_delayed part what ≡ true
  pin_kept i pin (Pin name place) h = some_at _ i (both_left _ _ h)
  pin_kept i pin (Net name) h = cc h
  pin_kept i pin (ByKind cell) h = cc h

  net_same : (i : ℕ) → i < length nets → (what : Delayed) → is_of_net part i what ≡ is_of_net whole (original i) what
  net_same i within (Pin name place) = refl
  net_same i within (Net name) = at_same name i within
  net_same i within (ByKind cell) = refl

  net_kept : (i : ℕ) (what : Delayed) → is_of_net part i what ≡ true → has_delayed part what ≡ true
  net_kept i (Pin name place) h = cc h
  net_kept i (Net name) h = some_at _ i h
  net_kept i (ByKind cell) h = cc h

  kind_kept : (kind : Option ℕ) (what : Delayed) → is_of_kind kind what ≡ true → has_delayed part what ≡ true
  kind_kept kind (Pin name place) h = cc h
  kind_kept kind (Net name) h = cc h
  kind_kept kind (ByKind cell) h = refl

  delay_in-same : (p q : Delayed → Bool) → ((what : Delayed) → p what ≡ q what) → ((what : Delayed) → p what ≡ true → has_delayed part what ≡ true)
      → (rows : List DelayRow) → delay_in p (filter (λ row. has_delayed part row.what) rows) ≡ delay_in q rows
  delay_in-same p q same kept rows =
      ap (option_map (λ row. row.delay)) (find_kept (λ (row : DelayRow). p row.what) (λ (row : DelayRow). q row.what) (λ (row : DelayRow). has_delayed part row.what) (λ row. same row.what) (λ row. kept row.what) rows)

  kind_read : (i : ℕ) → i < length nets → driver_cell (driver_of part i) ≡ driver_cell (driver_of whole (original i))
  kind_read i within = sym (cell_kept (λ k. get_or nets k 0) (driver_of part i)) ∙ ap driver_cell (driver_read whole part nets is sound i within)

  pub delay-same : (rows : List DelayRow) (i pin : ℕ) → i < length nets → delay_by part (filter (λ row. has_delayed part row.what) rows) i pin ≡ delay_by whole rows (original i) pin
  unfolding delay_by
  delay-same rows i pin within =
      let a = delay_in-same (is_of_pin part i pin) (is_of_pin whole (original i) pin) (pin_same i pin within) (pin_kept i pin) rows in
      let b = delay_in-same (is_of_net part i) (is_of_net whole (original i)) (net_same i within) (net_kept i) rows in
      let c = delay_in-same (is_of_kind (driver_cell (driver_of part i))) (is_of_kind (driver_cell (driver_of part i))) (λ _. refl) (kind_kept (driver_cell (driver_of part i))) rows
      ∙ ap (λ kind. delay_in (is_of_kind kind) rows) (kind_read i within) in
      ap (λ o. max (unwrap_or o 1) 1) (ap (λ o. option_or o (option_or (delay_in (is_of_net part i) (filter (λ row. has_delayed part row.what) rows)) (delay_in (is_of_kind (driver_cell (driver_of part i))) (filter (λ row. has_delayed part row.what) rows)))) a
      ∙ ap (λ o. option_or (delay_in (is_of_pin whole (original i) pin) rows) (option_or o (delay_in (is_of_kind (driver_cell (driver_of part i))) (filter (λ row. has_delayed part row.what) rows)))) b
      ∙ ap (λ o. option_or (delay_in (is_of_pin whole (original i) pin) rows) (option_or (delay_in (is_of_net whole (original i)) rows) o)) c)

  -- ---- stimuli

  row_level-same : (rows : List StimulusRow) (i tick : ℕ) → i < length nets → row_level part (filter (λ row. has_net part row.net) rows) i tick ≡ row_level whole rows (original i) tick
  unfolding row_level
  row_level-same rows i tick within =
      ap (option_map (λ row. row.level)) (find_kept (λ (row : StimulusRow). is_at (number_of part row.net) i && row.tick == tick) (λ (row : StimulusRow). is_at (number_of whole row.net) (original i) && row.tick == tick) (λ (row : StimulusRow). has_net part row.net)
      (λ row. ap (λ b. b && row.tick == tick) (at_same row.net i within)) (λ row h. some_at _ i (both_left _ _ h)) rows)

  pub stimulus-same : (rows : List StimulusRow) (i tick : ℕ) → i < length nets → level_by (row_level part (filter (λ row. has_net part row.net) rows) i) tick ≡ level_by (row_level whole rows (original i)) tick
  unfolding level_by
  stimulus-same rows i zero within = ap (λ o. unwrap_or o X) (row_level-same rows i zero within)
  stimulus-same rows i (suc tick) within =
      ap (λ o. unwrap_or o (level_by (row_level part (filter (λ row. has_net part row.net) rows) i) tick)) (row_level-same rows i (suc tick) within)
      ∙ ap (unwrap_or (row_level whole rows (original i) (suc tick))) (stimulus-same rows i tick within)

  -- ---- clocks

  pub clock-same : (design : Design) (i : ℕ) → i < length nets → whole ≡ design.netlist → clock_of (design_on design part) i ≡ clock_of design (original i)
  unfolding clock_of
  clock-same design i within e =
      let found : find (λ (row : ClockRow). is_at (number_of part row.net) i) (filter (λ row. has_net part row.net) design.clocks) ≡ find (λ (row : ClockRow). is_at (number_of design.netlist row.net) (original i)) design.clocks =
      find_kept _ _ (λ row. has_net part row.net) (λ row. at_same row.net i within ∙ ap (λ n. is_at (number_of n row.net) (original i)) e) (λ row h. some_at _ i h) design.clocks in
      ap (λ o. unwrap_or (option_map clock_of_row o) (common_clock design.clock)) found

  -- ---- first levels

  pub initial-same : (design : Design) (i : ℕ) → i < length nets → whole ≡ design.netlist → initial_level (design_on design part) i ≡ initial_level design (original i)
  unfolding initial_level
  initial-same design i within e =
      let found : find (λ (row : InitialRow). is_at (number_of part row.net) i) (filter (λ row. has_net part row.net) design.initial) ≡ find (λ (row : InitialRow). is_at (number_of design.netlist row.net) (original i)) design.initial =
      find_kept _ _ (λ row. has_net part row.net) (λ row. at_same row.net i within ∙ ap (λ n. is_at (number_of n row.net) (original i)) e) (λ row h. some_at _ i h) design.initial in
      ap (λ o. unwrap_or (option_map level_of_row o) design.init) found
