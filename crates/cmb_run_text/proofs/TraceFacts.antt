-- The change of a net at a tick, in its wave's list.
use Rattle.std.proofs.Common.{◌≡◌, ◌≤◌, ◌<◌, ℕ, zero, suc, List, [], ◌∷◌, ◌-◌, length, get_or, take, drop, length-drop, true, false, Bool, refl, ap, sym, ◌∙◌, arith, cond, ⊎_elim}
use Rattle.std.specs.Prelude.{◌==◌, filter, nat_le, nat_lt, if◌then◌else◌}
use Rattle.std.specs.List.{flat_map}
use Rattle.std.proofs.lemmas.Bool.{cases_lt}
use Rattle.std.proofs.lemmas.Bool.Decides.{nat_tests}
use Rattle.std.proofs.lemmas.List.{append-nil}
use Rattle.cmb_wave.specs.declared.level.Level.{Level}
use Rattle.cmb_wave.specs.declared.level.Change.{Change}
use Rattle.cmb_wave.specs.Waveform.{IsTrace, Rises, below, at_or_after, changes_below, level_at, same_level}
use Rattle.cmb_wave.proofs.Lists.{below_length, drop_below, take_below, same_level_refl, test_of_differs}
use Rattle.cmb_run_text.specs.declared.value_changes.ValueChange.{ValueChange}
use Rattle.cmb_run_text.specs.Inner.ValueChanges.{value_changes_of, is_at, within}
use Rattle.cmb_run_text.specs.Vcd.{level_line}

pub rises_take : (low count : ℕ) (cs : List Change) → Rises low cs → Rises low (take count cs)
rises_take low zero cs r = tt
rises_take low (suc count) [] r = tt
rises_take low (suc count) (c ∷ cs) r = (r.0, rises_take (suc c.tick) count cs r.1)

-- in a list that rises all ticks are below one that the last is below
rises_last : (low : ℕ) (c : Change) (cs : List Change) (d : Change) → Rises low (c ∷ cs) → low ≤ (get_or (c ∷ cs) (length cs) d).tick
rises_last low c [] d r = r.0
rises_last low c (e ∷ cs) d r = omega (arith, r.0, rises_last (suc c.tick) e cs d r.1)

all_below : (low tick : ℕ) (c : Change) (cs : List Change) (d : Change) → Rises low (c ∷ cs) → (get_or (c ∷ cs) (length cs) d).tick < tick → below tick (c ∷ cs) ≡ suc (length cs)
all_below low tick c [] d r h = let e : nat_lt c.tick tick ≡ true = grind (arith, nat_tests) in rw e refl
all_below low tick c (n ∷ cs) d r h =
    let first : c.tick < tick = omega (arith, rises_last (suc c.tick) n cs d r.1, h) in
    let e : nat_lt c.tick tick ≡ true = grind (arith, nat_tests) in
    rw e (ap suc (all_below (suc c.tick) tick n cs d r.1 h))

pub none_left_from : (low tick : ℕ) (cs : List Change) (d : Change) → Rises low cs → 1 ≤ length cs → (get_or cs (length cs - 1) d).tick < tick → below tick cs ≡ length cs
none_left_from low tick [] d r h g = absurd (omega arith)
none_left_from low tick (c ∷ cs) d r h g = all_below low tick c cs d r (let same : suc (length cs) - 1 ≡ length cs = omega arith in rw same at g)

-- what is left of a list from one tick on, of what stands before the rest from another tick on
pub between : (from to : ℕ) (cs later earlier : List Change) → Rises 0 cs → later ≡ drop (below to cs) cs → earlier ≡ take (length cs - length later) cs
    → drop (below from earlier) earlier ≡ within from to cs
between from to cs later earlier r e f =
    let least : below to cs ≤ length cs = below_length to cs in
    let size : length later ≡ length cs - below to cs = ap length e ∙ length-drop (below to cs) cs in
    let same : length cs - length later ≡ below to cs = omega arith in
    let first : earlier ≡ take (below to cs) cs = f ∙ ap (λ n. take n cs) same in
    let rises : Rises 0 earlier = rw first (rises_take 0 (below to cs) cs r) in
    drop_below 0 from earlier rises ∙ ap (at_or_after from) (first ∙ take_below 0 to cs r)

-- the changes of a list at a tick
abbrev pub changes_at : ℕ → List Change → List Change
changes_at tick changes = filter (λ change. change.tick == tick) changes

-- the change from one level to another, where they differ
abbrev pub change_to : ℕ → Level → Level → List Change
change_to tick before after = if same_level before after then [] else record { tick = tick; level = after } ∷ []

-- a trace from a tick on is one from tick 0 on
pub trace_start : (before : Level) (low high : ℕ) (cs : List Change) → IsTrace before low cs high → IsTrace before 0 cs high
trace_start before low high [] r = omega arith
trace_start before low high (c ∷ cs) r = (omega arith, r.1, r.2, r.3)

-- before its first change a trace tells the level before it, and has no change
pub early_level : (before : Level) (low high tick : ℕ) (cs : List Change) → IsTrace before low cs high → tick < low → level_at before cs tick ≡ before
early_level before low high tick [] r h = refl
early_level before low high tick (c ∷ cs) r h =
    let first : low ≤ c.tick = r.0 in
    let e : nat_le c.tick tick ≡ false = grind (arith, nat_tests) in rw e refl

early_changes : (before : Level) (low high tick : ℕ) (cs : List Change) → IsTrace before low cs high → tick < low → changes_at tick cs ≡ []
early_changes before low high tick [] r h = refl
early_changes before low high tick (c ∷ cs) r h =
    let first : low ≤ c.tick = r.0 in
    let e : (c.tick == tick) ≡ false = grind (arith, nat_tests) in rw e (early_changes c.level (suc c.tick) high tick cs r.3 (omega arith))

-- the change of a trace at a tick after tick 0 is that of the levels that it tells
pub changes_at-told : (before : Level) (low high tick : ℕ) (cs : List Change) → IsTrace before low cs high
    → changes_at (suc tick) cs ≡ change_to (suc tick) (level_at before cs tick) (level_at before cs (suc tick))
changes_at-told before low high tick [] r = let e : same_level before before ≡ true = same_level_refl before in rw e refl
changes_at-told before low high tick (c ∷ cs) r =
    ⊎_elim (λ (h : c.tick < suc tick). after h (changes_at-told c.level (suc c.tick) high tick cs r.3))
    (λ (h : suc tick ≤ c.tick). ⊎_elim (λ (k : suc tick < c.tick). early k)
    (λ (k : c.tick ≤ suc tick). here (omega arith))
    (cases_lt (suc tick) c.tick))
    (cases_lt c.tick (suc tick))
  where
    after : c.tick < suc tick → changes_at (suc tick) cs ≡ change_to (suc tick) (level_at c.level cs tick) (level_at c.level cs (suc tick))
        → changes_at (suc tick) (c ∷ cs) ≡ change_to (suc tick) (level_at before (c ∷ cs) tick) (level_at before (c ∷ cs) (suc tick))
    after h more =
        let e : (c.tick == suc tick) ≡ false = grind (arith, nat_tests) in
        let f : nat_le c.tick tick ≡ true = grind (arith, nat_tests) in
        let g : nat_le c.tick (suc tick) ≡ true = grind (arith, nat_tests) in
        rw (e, f, g) more

    early : suc tick < c.tick → changes_at (suc tick) (c ∷ cs) ≡ change_to (suc tick) (level_at before (c ∷ cs) tick) (level_at before (c ∷ cs) (suc tick))
    early h =
        let e : (c.tick == suc tick) ≡ false = grind (arith, nat_tests) in
        let f : nat_le c.tick tick ≡ false = grind (arith, nat_tests) in
        let g : nat_le c.tick (suc tick) ≡ false = grind (arith, nat_tests) in
        let none : changes_at (suc tick) cs ≡ [] = early_changes c.level (suc c.tick) high (suc tick) cs r.3 (omega arith) in
        let same : same_level before before ≡ true = same_level_refl before in
        rw (e, f, g, same) none

    here : c.tick ≡ suc tick → changes_at (suc tick) (c ∷ cs) ≡ change_to (suc tick) (level_at before (c ∷ cs) tick) (level_at before (c ∷ cs) (suc tick))
    here h =
        let e : (c.tick == suc tick) ≡ true = grind (arith, nat_tests) in
        let f : nat_le c.tick tick ≡ false = grind (arith, nat_tests) in
        let g : nat_le c.tick (suc tick) ≡ true = grind (arith, nat_tests) in
        let none : changes_at (suc tick) cs ≡ [] = early_changes c.level (suc c.tick) high (suc tick) cs r.3 (omega arith) in
        let level : level_at c.level cs (suc tick) ≡ c.level = early_level c.level (suc c.tick) high (suc tick) cs r.3 (omega arith) in
        let differ : same_level before c.level ≡ false = test_of_differs before c.level (λ same. r.2 (sym same)) in
        let change : c ≡ record { tick = suc tick; level = c.level } = λ i. record { tick = h i; level = c.level } in
        rw (e, f, g, level, differ, none) (ap (λ d. d ∷ []) change)

-- of the changes in a span of ticks those at a tick of it are all that stand there
pub changes_at-within : (from to tick : ℕ) (cs : List Change) → from ≤ tick → tick < to → changes_at tick (within from to cs) ≡ changes_at tick cs
changes_at-within from to tick [] h k = refl
changes_at-within from to tick (c ∷ cs) h k = by (nat_lt c.tick to) refl (nat_le from c.tick) refl (changes_at-within from to tick cs h k)
  where
    by : (b : Bool) → nat_lt c.tick to ≡ b → (a : Bool) → nat_le from c.tick ≡ a → changes_at tick (within from to cs) ≡ changes_at tick cs
        → changes_at tick (at_or_after from (cond b (c ∷ changes_below to cs) (changes_below to cs))) ≡ changes_at tick (c ∷ cs)
    by true e true f more = rw (f, more) refl
    by true e false f more = let g : (c.tick == tick) ≡ false = grind (arith, nat_tests) in rw (f, g) more
    by false e a f more = let g : (c.tick == tick) ≡ false = grind (arith, nat_tests) in rw g more

-- ---- as changes of a net

pub filter-value_changes_of : (tick net : ℕ) (cs : List Change) → filter (is_at tick) (value_changes_of net cs) ≡ value_changes_of net (changes_at tick cs)
unfolding value_changes_of
filter-value_changes_of tick net [] = refl
filter-value_changes_of tick net (c ∷ cs) = by (c.tick == tick) (filter-value_changes_of tick net cs)
  where
    by : (b : Bool) → filter (is_at tick) (value_changes_of net cs) ≡ value_changes_of net (changes_at tick cs)
        → cond b (record { tick = c.tick; net = net; level = c.level } ∷ filter (is_at tick) (value_changes_of net cs)) (filter (is_at tick) (value_changes_of net cs)) ≡ value_changes_of net (cond b (c ∷ changes_at tick cs) (changes_at tick cs))
    by true more = ap (λ es. record { tick = c.tick; net = net; level = c.level } ∷ es) more
    by false more = more

-- the text of changes of one tick
abbrev pub lines_of : List ValueChange → List ℕ
lines_of events = flat_map (λ event. level_line event.level event.net) events

pub line_at : (tick net : ℕ) (before after : Level) → lines_of (value_changes_of net (change_to tick before after)) ≡ cond (same_level before after) [] (level_line after net)
unfolding value_changes_of
line_at tick net before after = by (same_level before after)
  where
    by : (b : Bool) → lines_of (value_changes_of net (cond b [] (record { tick = tick; level = after } ∷ []))) ≡ cond b [] (level_line after net)
    by true = refl
    by false = append-nil (level_line after net)
