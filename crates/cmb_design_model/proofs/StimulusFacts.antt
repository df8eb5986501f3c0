-- Stimulus rows taken in turn into a map for each net.
use Rattle.std.proofs.Common.{◌≡◌, ◌≢◌, ◌≤◌, ◌<◌, ◌+◌, ℕ, zero, suc, List, [], ◌∷◌, ◌++◌, Option, Some, None, length, take, get_or, map, set, true, false, Bool, refl, sym, ap, arith, ◌∙◌, cond, ⊎_elim, get_or-set_other, get_or-set_same, subst}
use Rattle.std.specs.Prelude.{◌==◌, ◌&&◌, is_some, nat_le, not, find, option_map, bytes_eq, slice_get}
use Rattle.std.specs.List.{list_any}
use Rattle.std.specs.Option.{option_or}
use Rattle.std.proofs.lemmas.Bool.{cases_lt}
use Rattle.std.proofs.lemmas.Bool.Decides.{nat_tests}
use Rattle.std.proofs.lemmas.List.{length-map}
use Rattle.std.proofs.lemmas.List.Folds.{find-append}
use Rattle.std.proofs.lemmas.List.FromFn.{fill_by_all}
use Rattle.std.proofs.lemmas.Option.{get_or_from_slice_get, slice_get_within}
use Rattle.std.proofs.Math.ListN.{length-set}
use Rattle.cmb_wave.specs.declared.level.Level.{Level}
use Rattle.cmb_wave.specs.declared.level.Change.{Change}
use Rattle.cmb_wave.specs.Waveform.{changes_between}
use Rattle.cmb_wave.proofs.Waveforms.{changes_between-agree}
use Rattle.cmb_netlist.specs.Netlist.{Netlist, driver_of, number_of}
use Rattle.cmb_design_model.specs.Checks.{IsFaultOf, check, checks_at, first_fault}
use Rattle.cmb_design_model.specs.Nets.{driver_named, is_at, is_input}
use Rattle.cmb_design_model.specs.Rows.{expected_row_checks, stimulus_row_checks, told_row_checks}
use Rattle.cmb_design_model.specs.Inner.Stimuli.{AllEmpty, AllTold, AreStimuli, stimulus_changes}
use Rattle.cmb_design_model.specs.Timing.{level_by, row_level}
use Rattle.cmb_design_model.specs.declared.fault.DesignFault.{DesignFault}
use Rattle.cmb_design_model.specs.declared.fault.DesignFault.TheVariants as fault
use Rattle.cmb_design_model.specs.declared.rows.StimulusRow.{StimulusRow}
use Rattle.cmb_design_model.specs.declared.row_levels.RowLevels.{RowLevels}
use Rattle.cmb_design_model.specs.Inner.RowLevels.{IsTold, told_at}
use Rattle.cmb_design_model.proofs.CheckFacts.{checks_at-is, element_at, get_some, last-after, last-decides, take_one}
use Rattle.cmb_design_model.proofs.PlaceFacts.{found, none_from, or_none, same_or_not}
use Rattle.cmb_design_model.proofs.RowFacts.{list_any-same, named_same}

abbrev is_row : Netlist → ℕ → ℕ → StimulusRow → Bool
is_row netlist net tick row = is_at (number_of netlist row.net) net && row.tick == tick

repeated : (netlist : Netlist) (r : StimulusRow) (k : ℕ) (es : List StimulusRow) → number_of netlist r.net ≡ Some k
    → list_any (λ o. bytes_eq o.net r.net && o.tick == r.tick) es ≡ is_some (row_level netlist es k r.tick)
unfolding row_level
repeated netlist r k es h =
    list_any-same (λ o. bytes_eq o.net r.net && o.tick == r.tick) (is_row netlist k r.tick) es (λ o. ap (λ b. b && (o.tick == r.tick)) (named_same netlist r.net o.net k h))
    ∙ sym (found (is_row netlist k r.tick) (λ row. row.level) es)

-- the map of a net, at a row's net
levels_at : (netlist : Netlist) (es : List StimulusRow) (table : List RowLevels) (k tick : ℕ) (m : RowLevels) → AreStimuli netlist es table → k < length netlist.names → m ≡ get_or table k m
    → is_some (told_at m tick) ≡ is_some (row_level netlist es k tick)
levels_at netlist es table k tick m a b e = ap is_some (a.levels k m (get_some table k m (omega (arith, a.nets)) e) tick)

pub told_unknown : (netlist : Netlist) (rows : List StimulusRow) (i : ℕ) (r : StimulusRow) → i < length rows → r ≡ get_or rows i r → number_of netlist r.net ≡ None
    → first_fault (checks_at (told_row_checks netlist) rows i) ≡ Some (fault.UnknownNet (i + 2))
unfolding first_fault
told_unknown netlist rows i r h e n = rw (checks_at-is (told_row_checks netlist) rows i r h e, n) refl

-- what the checks of a row of a known net answer, by the level that the net's map had at the tick
pub told_answer : (netlist : Netlist) (rows : List StimulusRow) (i : ℕ) (r : StimulusRow) (k : ℕ) (table : List RowLevels) (m : RowLevels) (held : Bool)
    → i < length rows → r ≡ get_or rows i r → number_of netlist r.net ≡ Some k → k < length netlist.names → AreStimuli netlist (take i rows) table → m ≡ get_or table k m
    → is_some (told_at m r.tick) ≡ held → first_fault (checks_at (told_row_checks netlist) rows i) ≡ cond held (Some (fault.RepeatedRow (i + 2))) None
unfolding first_fault
told_answer netlist rows i r k table m held h e n b a f t =
    let at : is_some (row_level netlist (take i rows) k r.tick) ≡ held = sym (levels_at netlist (take i rows) table k r.tick m a b f) ∙ t in
    let g : list_any (λ o. bytes_eq o.net r.net && o.tick == r.tick) (take i rows) ≡ held = repeated netlist r k (take i rows) n ∙ at in
    rw (checks_at-is (told_row_checks netlist) rows i r h e, n, g) refl

-- what the checks of a stimulus of a known net answer, by whether the net is an input
pub stimulus_refused : (netlist : Netlist) (rows : List StimulusRow) (i : ℕ) (e : DesignFault) → IsFaultOf (checks_at (told_row_checks netlist) rows i) e
    → IsFaultOf (checks_at (stimulus_row_checks netlist) rows i) e
unfolding stimulus_row_checks
stimulus_refused netlist rows i e h =
    last-after (told_row_checks netlist) (λ n r. check (fault.NotInput n) (not (driver_named netlist is_input r.net))) rows i e h

pub stimulus_answer : (netlist : Netlist) (rows : List StimulusRow) (i : ℕ) (r : StimulusRow) (k : ℕ) (driven : Bool) → i < length rows → r ≡ get_or rows i r
    → number_of netlist r.net ≡ Some k → first_fault (checks_at (told_row_checks netlist) rows i) ≡ None → is_input (driver_of netlist k) ≡ driven
    → first_fault (checks_at (stimulus_row_checks netlist) rows i) ≡ cond (not driven) (Some (fault.NotInput (i + 2))) None
unfolding stimulus_row_checks
stimulus_answer netlist rows i r k driven h e n passed w =
    last-decides (told_row_checks netlist) (λ n r. check (fault.NotInput n) (not (driver_named netlist is_input r.net))) rows i r h e passed ∙ rw (n, w) refl

-- and those of what is expected, by whether the tick is below the horizon
pub expected_refused : (netlist : Netlist) (horizon : ℕ) (rows : List StimulusRow) (i : ℕ) (e : DesignFault) → IsFaultOf (checks_at (told_row_checks netlist) rows i) e
    → IsFaultOf (checks_at (expected_row_checks netlist horizon) rows i) e
unfolding expected_row_checks
expected_refused netlist horizon rows i e h =
    last-after (told_row_checks netlist) (λ n r. check (fault.BeyondHorizon n) (nat_le horizon r.tick)) rows i e h

pub expected_answer : (netlist : Netlist) (horizon : ℕ) (rows : List StimulusRow) (i : ℕ) (r : StimulusRow) (late : Bool) → i < length rows → r ≡ get_or rows i r
    → first_fault (checks_at (told_row_checks netlist) rows i) ≡ None → nat_le horizon r.tick ≡ late
    → first_fault (checks_at (expected_row_checks netlist horizon) rows i) ≡ cond late (Some (fault.BeyondHorizon (i + 2))) None
unfolding expected_row_checks
expected_answer netlist horizon rows i r late h e passed w =
    last-decides (told_row_checks netlist) (λ n r. check (fault.BeyondHorizon n) (nat_le horizon r.tick)) rows i r h e passed ∙ rw w refl

-- the levels of a net in the table
pub told_in : (table : List RowLevels) (k : ℕ) (m : RowLevels) → AllTold table → k < length table → m ≡ get_or table k m → IsTold m
told_in table k m a b e = a k m (get_some table k m b e)

-- one more row
row_level-push : (netlist : Netlist) (es : List StimulusRow) (r : StimulusRow) (net tick : ℕ)
    → row_level netlist (es ++ r ∷ []) net tick ≡ option_map (λ row. row.level) (option_or (find (is_row netlist net tick) es) (cond (is_row netlist net tick r) (Some r) None))
unfolding row_level
row_level-push netlist es r net tick = rw (find-append (is_row netlist net tick) es (r ∷ [])) refl

none_or : {X V : Type 0} (value : X → V) (o p : Option X) → option_map value o ≡ None → option_map value (option_or o p) ≡ option_map value p
none_or value None p h = refl
none_or value (Some x) p h = cc h

row_level-here : (netlist : Netlist) (es : List StimulusRow) (r : StimulusRow) (k tick : ℕ) → number_of netlist r.net ≡ Some k → is_some (row_level netlist es k r.tick) ≡ false
    → row_level netlist (es ++ r ∷ []) k tick ≡ cond (tick == r.tick) (Some r.level) (row_level netlist es k tick)
unfolding row_level
row_level-here netlist es r k tick n h = ⊎_elim
    (λ (s : tick ≡ r.tick).
    let a : (k == k) ≡ true = grind (arith, nat_tests) in
    let b : (r.tick == r.tick) ≡ true = grind (arith, nat_tests) in
    rw s (row_level-push netlist es r k r.tick ∙ none_or (λ row. row.level) (find (is_row netlist k r.tick) es) (cond (is_row netlist k r.tick r) (Some r) None) (none_from _ h) ∙ rw (n, a, b) refl))
    (λ (s : tick ≢ r.tick).
    let a : (r.tick == tick) ≡ false = grind (arith, nat_tests) in
    let b : (tick == r.tick) ≡ false = grind (arith, nat_tests) in
    let d : (k == k) ≡ true = grind (arith, nat_tests) in
    row_level-push netlist es r k tick ∙ rw (n, d, a, b, or_none (find (is_row netlist k tick) es)) refl)
    (same_or_not tick r.tick)

row_level-other : (netlist : Netlist) (es : List StimulusRow) (r : StimulusRow) (k net tick : ℕ) → number_of netlist r.net ≡ Some k → net ≢ k
    → row_level netlist (es ++ r ∷ []) net tick ≡ row_level netlist es net tick
unfolding row_level
row_level-other netlist es r k net tick n h =
    let a : (k == net) ≡ false = grind (arith, nat_tests) in
    row_level-push netlist es r net tick ∙ rw (n, a, or_none (find (is_row netlist net tick) es)) refl

stimuli_push : (netlist : Netlist) (es : List StimulusRow) (r : StimulusRow) (k : ℕ) (table : List RowLevels) (old new : RowLevels)
    → AreStimuli netlist es table → k < length netlist.names → number_of netlist r.net ≡ Some k → old ≡ get_or table k old → is_some (row_level netlist es k r.tick) ≡ false
    → IsTold new → ((t : ℕ) → told_at new t ≡ cond (t == r.tick) (Some r.level) (told_at old t)) → AreStimuli netlist (es ++ r ∷ []) (set table k new)
stimuli_push netlist es r k table old new a b n e h is_told g = record {
  nets = length-set table k new ∙ a.nets;
  told = λ net m f. ⊎_elim
      (λ (s : net ≡ k).
      let u : k < length table = omega (arith, a.nets) in
      let v : new ≡ m = sym (get_or-set_same table k new m u) ∙ ap (λ x. get_or (set table k new) x m) (sym s) ∙ get_or_from_slice_get (set table k new) net m m f in
      subst IsTold v is_told)
      (λ (s : net ≢ k).
      let u : net < length (set table k new) = slice_get_within (set table k new) net m f in
      let v : net < length table = omega (arith, length-set table k new) in
      let w : m ≡ get_or table net m = sym (get_or_from_slice_get (set table k new) net m m f) ∙ get_or-set_other table k net new m s in
      a.told net m (get_some table net m v w))
      (same_or_not net k);
  levels = λ net m f tick. ⊎_elim
      (λ (s : net ≡ k).
      let u : k < length table = omega (arith, a.nets) in
      let v : new ≡ m = sym (get_or-set_same table k new m u) ∙ ap (λ x. get_or (set table k new) x m) (sym s) ∙ get_or_from_slice_get (set table k new) net m m f in
      rw s (ap (λ x. told_at x tick) (sym v) ∙ g tick ∙ ap (λ o. cond (tick == r.tick) (Some r.level) o) (a.levels k old (get_some table k old u e) tick) ∙ sym (row_level-here netlist es r k tick n h)))
      (λ (s : net ≢ k).
      let u : net < length (set table k new) = slice_get_within (set table k new) net m f in
      let v : net < length table = omega (arith, length-set table k new) in
      let w : m ≡ get_or table net m = sym (get_or_from_slice_get (set table k new) net m m f) ∙ get_or-set_other table k net new m s in
      a.levels net m (get_some table net m v w) tick ∙ sym (row_level-other netlist es r k net tick n s))
      (same_or_not net k);
}

-- the row with an index, at a tick at which its net's map had no level
pub stimuli_take : (netlist : Netlist) (rows : List StimulusRow) (i : ℕ) (r : StimulusRow) (k : ℕ) (table : List RowLevels) (old new : RowLevels)
    → i < length rows → r ≡ get_or rows i r → number_of netlist r.net ≡ Some k → k < length netlist.names → AreStimuli netlist (take i rows) table → old ≡ get_or table k old
    → is_some (told_at old r.tick) ≡ false → IsTold new → ((t : ℕ) → told_at new t ≡ cond (t == r.tick) (Some r.level) (told_at old t))
    → AreStimuli netlist (take (i + 1) rows) (set table k new)
stimuli_take netlist rows i r k table old new h e n b a f t is_told g =
    rw (take_one rows i r h e)
    (stimuli_push netlist (take i rows) r k table old new a b n f (sym (levels_at netlist (take i rows) table k r.tick old a b f) ∙ t) is_told g)

-- no row
pub stimuli_none : (netlist : Netlist) (table : List RowLevels) → length table ≡ length netlist.names → AllEmpty table → AreStimuli netlist [] table
unfolding row_level
stimuli_none netlist table n e = record { nets = n; told = λ net m f. (e net m f).0; levels = λ net m f tick. (e net m f).1 tick }

-- one more empty map
slice_get-before : {X : Type 0} (xs : List X) (y : X) (i : ℕ) → i < length xs → slice_get (xs ++ y ∷ []) i ≡ slice_get xs i
slice_get-before [] y i h = absurd (omega arith)
slice_get-before (z ∷ xs) y zero h = refl
slice_get-before (z ∷ xs) y (suc i) h = slice_get-before xs y i (omega arith)

slice_get-last : {X : Type 0} (xs : List X) (y : X) (i : ℕ) (x : X) → length xs ≤ i → slice_get (xs ++ y ∷ []) i ≡ Some x → x ≡ y
slice_get-last [] y zero x b h = cc h
slice_get-last [] y (suc i) x b h = cc h
slice_get-last (z ∷ xs) y zero x b h = absurd (omega arith)
slice_get-last (z ∷ xs) y (suc i) x b h = slice_get-last xs y i x (omega arith) h

pub empty-push : (table new : List RowLevels) (levels : RowLevels) → AllEmpty table → new ≡ table ++ levels ∷ [] → IsTold levels → ((tick : ℕ) → told_at levels tick ≡ None) → AllEmpty new
empty-push table new levels a is is_told none = λ net m f. ⊎_elim
    (λ (h : net < length table). a net m (sym (slice_get-before table levels net h) ∙ sym (ap (λ t. slice_get t net) is) ∙ f))
    (λ (h : length table ≤ net).
    let e : m ≡ levels = slice_get-last table levels net m h (sym (ap (λ t. slice_get t net) is) ∙ f) in
    subst (λ l. IsTold l × ((tick : ℕ) → told_at l tick ≡ None)) (sym e) (is_told, none))
    (cases_lt net (length table))

-- ---- the changes

pub map_at : {X Y : Type 0} (f : X → Y) (xs : List X) (i : ℕ) (x : X) (d : Y) → slice_get xs i ≡ Some x → get_or (map f xs) i d ≡ f x
map_at f [] i x d h = absurd (omega (arith, slice_get_within {A = _} [] i x h))
map_at f (y ∷ xs) zero x d h = let e : y ≡ x = cc h in ap f e
map_at f (y ∷ xs) (suc i) x d h = map_at f xs i x d h

level_by-same : (f g : ℕ → Option Level) → ((t : ℕ) → f t ≡ g t) → (t : ℕ) → level_by f t ≡ level_by g t
unfolding level_by
level_by-same f g h zero = rw (h 0) refl
level_by-same f g h (suc t) = rw (h (suc t), level_by-same f g h t) refl

pub changes_of_stimuli : (netlist : Netlist) (rows : List StimulusRow) (table : List RowLevels) (horizon : ℕ) → AreStimuli netlist rows table
    → map (λ levels. changes_between (level_by (told_at levels)) 0 horizon) table ≡ stimulus_changes netlist rows horizon
unfolding stimulus_changes
changes_of_stimuli netlist rows table horizon a =
    let f : RowLevels → List Change = λ levels. changes_between (level_by (told_at levels)) 0 horizon in
    fill_by_all (λ net. changes_between (level_by (row_level netlist rows net)) 0 horizon) (map f table) (length netlist.names) [] (length-map table f ∙ a.nets) (λ j b.
    let x = element_at table j (omega (arith, a.nets)) in
    let s : slice_get table j ≡ Some x.0 = get_some table j x.0 (omega (arith, a.nets)) x.1 in
    map_at f table j x.0 [] s
    ∙ changes_between-agree (level_by (told_at x.0)) (level_by (row_level netlist rows j)) 0 horizon refl (λ t low top. level_by-same (told_at x.0) (row_level netlist rows j) (a.levels j x.0 s) t))
