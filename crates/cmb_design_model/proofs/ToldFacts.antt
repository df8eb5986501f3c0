-- Rows of one net that are taken in turn.
use Rattle.std.proofs.Common.{◌≡◌, ◌≢◌, ◌≤◌, ◌<◌, ◌+◌, ℕ, zero, suc, List, [], ◌∷◌, ◌++◌, Some, None, length, take, get_or, true, false, refl, sym, ap, arith, ◌∙◌, cond, ⊎_elim}
use Rattle.std.specs.Prelude.{◌==◌}
use Rattle.std.proofs.lemmas.Bool.Decides.{nat_tests}
use Rattle.std.proofs.lemmas.List.{map-append}
use Rattle.cmb_wave.specs.declared.level.Level.{Level}
use Rattle.cmb_wave.specs.declared.level.Level.TheVariants.{X}
use Rattle.cmb_wave.specs.declared.level.Change.{Change}
use Rattle.cmb_wave.specs.Waveform.{changes_between}
use Rattle.cmb_design_model.specs.Timing.{level_by}
use Rattle.cmb_design_model.specs.Inner.RowLevels.{AreChanges, Below, Differs, Rises, Row, level_after, row_in, rows_of}
use Rattle.cmb_design_model.proofs.CheckFacts.{take_one}
use Rattle.cmb_design_model.proofs.LevelFacts.{keep, keep-changes, keep-kept}
use Rattle.cmb_design_model.proofs.PlaceFacts.{same_or_not}

-- the last of rising ticks is the greatest
pub below_last : (low : ℕ) (cs : List Change) (n tick : ℕ) (d : Change) → Rises low (rows_of cs) → length cs ≡ suc n → (get_or cs n d).tick < tick → Below tick (rows_of cs)
below_last low [] n tick d r e h = tt
below_last low (c ∷ []) zero tick d r e h = (h, tt)
below_last low (c ∷ []) (suc n) tick d r e h = absurd (omega (arith, e))
below_last low (c ∷ q ∷ cs) zero tick d r e h = absurd (omega (arith, e))
below_last low (c ∷ q ∷ cs) (suc n) tick d r e h =
    let more = below_last (c.tick + 1) (q ∷ cs) n tick d r.1 (omega (arith, e)) h in
    (omega (arith, r.1.0, more.0), more)

-- the level behind all changes is that of the last
pub level_last : (before : Level) (cs : List Change) (n : ℕ) (d : Change) → length cs ≡ suc n → (get_or cs n d).level ≡ level_after before (rows_of cs)
level_last before [] n d e = absurd (omega (arith, e))
level_last before (c ∷ []) zero d e = refl
level_last before (c ∷ []) (suc n) d e = absurd (omega (arith, e))
level_last before (c ∷ q ∷ cs) zero d e = absurd (omega (arith, e))
level_last before (c ∷ q ∷ cs) (suc n) d e = level_last c.level (q ∷ cs) n d (omega (arith, e))

pub level_none : (before : Level) (cs : List Change) → length cs ≡ 0 → before ≡ level_after before (rows_of cs)
level_none before [] e = refl
level_none before (c ∷ cs) e = absurd (omega (arith, e))

pub below_none : (tick : ℕ) (cs : List Change) → length cs ≡ 0 → Below tick (rows_of cs)
below_none tick [] e = tt
below_none tick (c ∷ cs) e = absurd (omega (arith, e))

-- no row stands at a tick beyond all
pub row_in-beyond : (tick : ℕ) (ps : List Row) → Below tick ps → row_in ps tick ≡ None
unfolding row_in
row_in-beyond tick [] b = refl
row_in-beyond tick (p ∷ ps) b =
    let i : p.0 < tick = b.0 in
    let no : (p.0 == tick) ≡ false = grind (arith, nat_tests) in
    rw no (row_in-beyond tick ps b.1)

-- one more row
pub row_in-push : (ps : List Row) (tick : ℕ) (level : Level) (t : ℕ) → Below tick ps → row_in (ps ++ (tick, level) ∷ []) t ≡ cond (t == tick) (Some level) (row_in ps t)
unfolding row_in
row_in-push [] tick level t b = ⊎_elim
    (λ (s : t ≡ tick). let e : (t == tick) ≡ true = grind (arith, nat_tests) in let f : (tick == t) ≡ true = grind (arith, nat_tests) in rw (e, f) refl)
    (λ (s : t ≢ tick). let e : (t == tick) ≡ false = grind (arith, nat_tests) in let f : (tick == t) ≡ false = grind (arith, nat_tests) in rw (e, f) refl)
    (same_or_not t tick)
row_in-push (p ∷ ps) tick level t b = ⊎_elim
    (λ (s : t ≡ p.0).
    let i : p.0 < tick = b.0 in
    let e : (t == tick) ≡ false = grind (arith, nat_tests) in let f : (p.0 == t) ≡ true = grind (arith, nat_tests) in rw (e, f) refl)
    (λ (s : t ≢ p.0). let f : (p.0 == t) ≡ false = grind (arith, nat_tests) in rw f (row_in-push ps tick level t b.1))
    (same_or_not t p.0)

rises-push : (low : ℕ) (ps : List Row) (tick : ℕ) (level : Level) → Rises low ps → Below tick ps → low ≤ tick → Rises low (ps ++ (tick, level) ∷ [])
rises-push low [] tick level r b h = (h, tt)
rises-push low (p ∷ ps) tick level r b h = (r.0, rises-push (p.0 + 1) ps tick level r.1 b.1 (omega (arith, b.0)))

below-push : (high : ℕ) (ps : List Row) (tick : ℕ) (level : Level) → Below high ps → tick < high → Below high (ps ++ (tick, level) ∷ [])
below-push high [] tick level b h = (h, tt)
below-push high (p ∷ ps) tick level b h = (b.0, below-push high ps tick level b.1 h)

differs-push : (before : Level) (ps : List Row) (tick : ℕ) (level : Level) → Differs before ps → level ≢ level_after before ps → Differs before (ps ++ (tick, level) ∷ [])
differs-push before [] tick level d h = (h, tt)
differs-push before (p ∷ ps) tick level d h = (d.0, differs-push p.1 ps tick level d.1 h)

pub changes-push : (ps : List Row) (tick : ℕ) (level : Level) → AreChanges ps → Below tick ps → tick < 4294967296 → level ≢ level_after X ps → AreChanges (ps ++ (tick, level) ∷ [])
changes-push ps tick level are behind low other = record {
  rises = rises-push 0 ps tick level are.rises behind (omega arith);
  below = below-push 4294967296 ps tick level are.below low;
  differs = differs-push X ps tick level are.differs other;
}

pub no_changes : AreChanges []
no_changes = record { rises = tt; below = tt; differs = tt }

-- the rows before a place have lesser ticks
from-low : (low : ℕ) (cs : List Change) (i : ℕ) (d : Change) → Rises low (rows_of cs) → i < length cs → low ≤ (get_or cs i d).tick
from-low low [] i d r h = absurd (omega arith)
from-low low (c ∷ cs) zero d r h = r.0
from-low low (c ∷ cs) (suc i) d r h = omega (arith, r.0, from-low (c.tick + 1) cs i d r.1 (omega arith))

pub below-take : (low : ℕ) (cs : List Change) (i : ℕ) (d : Change) → Rises low (rows_of cs) → i < length cs → Below (get_or cs i d).tick (rows_of (take i cs))
below-take low [] i d r h = absurd (omega arith)
below-take low (c ∷ cs) zero d r h = tt
below-take low (c ∷ cs) (suc i) d r h = (omega (arith, from-low (c.tick + 1) cs i d r.1 (omega arith)), below-take (c.tick + 1) cs i d r.1 (omega arith))

pub rows-take : (cs : List Change) (i : ℕ) (c : Change) → i < length cs → c ≡ get_or cs i c → rows_of (take (i + 1) cs) ≡ rows_of (take i cs) ++ (c.tick, c.level) ∷ []
rows-take cs i c h e = ap rows_of (take_one cs i c h e) ∙ map-append (λ change. (change.tick, change.level)) (take i cs) (c ∷ [])

-- no row
pub row_in-none : (t : ℕ) → row_in [] t ≡ None
unfolding row_in
row_in-none t = refl

-- changes are all kept
keep-all : (high : ℕ) (before : Level) (cs : List Change) → Below high (rows_of cs) → Differs before (rows_of cs) → keep high before (rows_of cs) ≡ cs
unfolding keep
keep-all high before [] b d = refl
keep-all high before (c ∷ cs) b d = keep-kept high before (c.tick, c.level) (rows_of cs) b.0 d.0 ∙ ap (λ l. c ∷ l) (keep-all high c.level cs b.1 d.1)

pub settled : (cs : List Change) → AreChanges (rows_of cs) → cs ≡ changes_between (level_by (row_in (rows_of cs))) 0 4294967296
settled cs are = sym (keep-all 4294967296 X cs are.below are.differs) ∙ keep-changes 4294967296 (rows_of cs) (row_in (rows_of cs)) are.rises (λ t. refl)
