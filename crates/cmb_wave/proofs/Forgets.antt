-- What a wave has forgotten changes no answer: whatever it holds, it takes, hears and tells as it would have.
use Rattle.std.proofs.Common.{◌≡◌, ℕ, suc, ◌+◌, ◌<◌, ◌≤◌, Bool, true, false, cond, List, [], ◌∷◌, ◌++◌, ◌⊎◌, inl, inr, length, refl, ap, sym, ◌∙◌, arith, leb, ltb, eqb, Option, Some, None, Result, Ok, Err}
use Rattle.std.specs.Result.{result_map_both}
use Rattle.std.proofs.lemmas.List.{append-nil, take-append-drop}
use Rattle.std.proofs.lemmas.List.Elements.{filter-append}
use Rattle.std.proofs.lemmas.Bool.{le-leb, lt-leb, lt-ltb, le-ltb, leb-true, leb-false, cases_lt}
use Rattle.cmb_wave.specs.declared.level.Level.{Level}
use Rattle.cmb_wave.specs.declared.level.Change.{Change}
use Rattle.cmb_wave.specs.declared.level.Promise.{Promise}
use Rattle.cmb_wave.specs.declared.wave.WaveFault.{WaveFault}
use Rattle.cmb_wave.specs.declared.wave.WaveFault.TheVariants.{Gap, Old}
use Rattle.cmb_wave.specs.Waveform.{level_at, last_level, at_or_after, changes_below, below, clash, Rises, IsTrace}
use Rattle.cmb_wave.specs.Wave.{Piece, Wave, wave_with_piece, wave_up_to, wave_from}
use Rattle.cmb_wave.specs.Calls.{joined, taken, heard_wave, cut}
use Rattle.cmb_wave.proofs.Lists.{last_level_append, rises_of_trace, take_below, drop_below}
use Rattle.cmb_wave.proofs.Spans.{RisesWithin}
use Rattle.cmb_wave.proofs.Waveforms.{at_or_after-all, changes_below-none}

-- changes at or after a later tick are at or after an earlier one
at_or_after-twice : (early late : ℕ) (cs : List Change) → early ≤ late → at_or_after early (at_or_after late cs) ≡ at_or_after late cs
at_or_after-twice early late [] h = refl
at_or_after-twice early late (c ∷ cs) h = go (leb late c.tick) refl (at_or_after-twice early late cs h)
  where
    go : (b : Bool) → leb late c.tick ≡ b → at_or_after early (at_or_after late cs) ≡ at_or_after late cs → at_or_after early (cond b (c ∷ at_or_after late cs) (at_or_after late cs)) ≡ cond b (c ∷ at_or_after late cs) (at_or_after late cs)
    go true e rest =
        let late' : late ≤ c.tick = leb-true late c.tick e in
        let here : leb early c.tick ≡ true = le-leb early c.tick (omega arith) in
        rw (here, rest)
    go false e rest = rest

-- and they are those of all that there are
pub at_or_after-later : (early late : ℕ) (cs : List Change) → early ≤ late → at_or_after late (at_or_after early cs) ≡ at_or_after late cs
at_or_after-later early late [] h = refl
at_or_after-later early late (c ∷ cs) h = go (leb early c.tick) refl (at_or_after-later early late cs h)
  where
    go : (b : Bool) → leb early c.tick ≡ b → at_or_after late (at_or_after early cs) ≡ at_or_after late cs → at_or_after late (cond b (c ∷ at_or_after early cs) (at_or_after early cs)) ≡ at_or_after late (c ∷ cs)
    go true e rest = ap (λ (xs : List Change). cond (leb late c.tick) (c ∷ xs) xs) rest
    go false e rest =
        let early' : c.tick < early = leb-false early c.tick e in
        let not_late : leb late c.tick ≡ false = lt-leb late c.tick (omega arith) in
        rw not_late rest

-- and none of them is below it
changes_below-at_or_after : (early late : ℕ) (cs : List Change) → early ≤ late → changes_below early (at_or_after late cs) ≡ []
changes_below-at_or_after early late [] h = refl
changes_below-at_or_after early late (c ∷ cs) h = go (leb late c.tick) refl (changes_below-at_or_after early late cs h)
  where
    go : (b : Bool) → leb late c.tick ≡ b → changes_below early (at_or_after late cs) ≡ [] → changes_below early (cond b (c ∷ at_or_after late cs) (at_or_after late cs)) ≡ []
    go true e rest =
        let late' : late ≤ c.tick = leb-true late c.tick e in
        let here : ltb c.tick early ≡ false = le-ltb c.tick early (omega arith) in
        rw (here, rest)
    go false e rest = rest

-- to forget and then to take a piece is to take it and then to forget
pub from-with_piece : (wave : Wave) (piece : Piece) (upto : ℕ) → upto ≤ wave.clock → wave_with_piece (wave_from wave upto) piece ≡ wave_from (wave_with_piece wave piece) upto
from-with_piece wave piece upto h =
    let added : List Change = at_or_after wave.clock piece.changes in
    let after : at_or_after upto (wave.changes ++ added) ≡ at_or_after upto wave.changes ++ added = filter-append (λ change. leb upto change.tick) wave.changes added ∙ ap (λ cs. at_or_after upto wave.changes ++ cs) (at_or_after-twice upto wave.clock piece.changes h) in
    let below : changes_below upto (wave.changes ++ added) ≡ changes_below upto wave.changes = filter-append (λ change. ltb change.tick upto) wave.changes added ∙ ap (λ cs. changes_below upto wave.changes ++ cs) (changes_below-at_or_after upto wave.clock piece.changes h) ∙ append-nil (changes_below upto wave.changes) in
    λ i. record {
      net = wave.net;
      base = upto;
      clock = piece.to;
      count = wave.count + length added;
      kept = last_level wave.kept (sym below i);
      changes = sym after i;
    }

-- a wave that forgot tells the same levels from its base on
pub level_at-from : (kept : Level) (from to upto tick : ℕ) (cs : List Change) → RisesWithin from to cs → upto ≤ tick → level_at (last_level kept (changes_below upto cs)) (at_or_after upto cs) tick ≡ level_at kept cs tick
level_at-from kept from to upto tick [] rises h = refl
level_at-from kept from to upto tick (c ∷ cs) rises h = go (cases_lt c.tick upto) (level_at-from c.level (suc c.tick) to upto tick cs rises.2 h)
  where
    go : (c.tick < upto) ⊎ (upto ≤ c.tick) → level_at (last_level c.level (changes_below upto cs)) (at_or_after upto cs) tick ≡ level_at c.level cs tick → level_at (last_level kept (changes_below upto (c ∷ cs))) (at_or_after upto (c ∷ cs)) tick ≡ level_at kept (c ∷ cs) tick
    go (inl early) rest =
        let below : ltb c.tick upto ≡ true = lt-ltb c.tick upto early in
        let not_after : leb upto c.tick ≡ false = lt-leb upto c.tick early in
        let passed : leb c.tick tick ≡ true = le-leb c.tick tick (omega arith) in
        rw (below, not_after, passed) rest
    go (inr late) rest =
        let none : changes_below upto (c ∷ cs) ≡ [] = changes_below-none upto upto to (c ∷ cs) (omega arith) (late, rises.1, rises.2) in
        let all : at_or_after upto (c ∷ cs) ≡ c ∷ cs = at_or_after-all upto upto to (c ∷ cs) (omega arith) (late, rises.1, rises.2) in
        ap (λ (xs : List Change). level_at (last_level kept xs) (at_or_after upto (c ∷ cs)) tick) none ∙ ap (λ (xs : List Change). level_at kept xs tick) all

-- the two parts into which a tick cuts a rising list make it up
pub changes_below-append : (low tick : ℕ) (cs : List Change) → Rises low cs → changes_below tick cs ++ at_or_after tick cs ≡ cs
changes_below-append low tick cs rises = rw (sym (take_below low tick cs rises), sym (drop_below low tick cs rises)) (take-append-drop (below tick cs) cs)

-- so a wave that forgot ends with the same level
pub last_level-from : (wave : Wave) (upto : ℕ) → IsTrace wave.kept wave.base wave.changes wave.clock → last_level (wave_from wave upto).kept (wave_from wave upto).changes ≡ last_level wave.kept wave.changes
last_level-from wave upto trace =
    sym (last_level_append wave.kept (changes_below upto wave.changes) (at_or_after upto wave.changes))
    ∙ ap (last_level wave.kept) (changes_below-append wave.base upto wave.changes (rises_of_trace _ _ _ _ trace))

-- and takes and refuses the same pieces
pub taken-from : (wave : Wave) (piece : Piece) (upto : ℕ) → IsTrace wave.kept wave.base wave.changes wave.clock → upto ≤ wave.clock → taken (wave_from wave upto) piece ≡ result_map_both (λ after. wave_from after upto) (λ fault. fault) (taken wave piece)
taken-from wave piece upto trace h =
    let ends : last_level (wave_from wave upto).kept (wave_from wave upto).changes ≡ last_level wave.kept wave.changes = last_level-from wave upto trace in
    let rest : joined (wave_from wave upto) piece (clash (last_level (wave_from wave upto).kept (wave_from wave upto).changes) (at_or_after wave.clock piece.changes)) ≡ result_map_both (λ after. wave_from after upto) (λ fault. fault) (joined wave piece (clash (last_level wave.kept wave.changes) (at_or_after wave.clock piece.changes))) =
    rw ends (joins (clash (last_level wave.kept wave.changes) (at_or_after wave.clock piece.changes)))
    in
    go _ _ (ltb wave.clock piece.from) (leb piece.to wave.clock) rest
  where
    joins : (tick : Option ℕ) → joined (wave_from wave upto) piece tick ≡ result_map_both (λ after. wave_from after upto) (λ fault. fault) (joined wave piece tick)
    joins None = ap (λ (w : Wave). Ok w) (from-with_piece wave piece upto h)
    joins (Some tick) = refl

    go : (a b : Result Wave WaveFault) (gap old : Bool) → a ≡ result_map_both (λ after. wave_from after upto) (λ fault. fault) b → cond gap (Err (Gap wave.clock)) (cond old (Err (Old wave.clock)) a) ≡ result_map_both (λ after. wave_from after upto) (λ fault. fault) (cond gap (Err (Gap wave.clock)) (cond old (Err (Old wave.clock)) b))
    go a b true old e = refl
    go a b false true e = refl
    go a b false false e = e

-- and hears promises alike
pub heard-from : (wave : Wave) (promise : Promise) (upto : ℕ) → heard_wave (wave_from wave upto) promise ≡ wave_from (heard_wave wave promise) upto
heard-from wave promise upto = go (leb promise.upto wave.clock) (eqb wave.count promise.count)
  where
    go : (old same : Bool) → cond old (wave_from wave upto) (cond same (wave_up_to (wave_from wave upto) promise.upto) (wave_from wave upto)) ≡ wave_from (cond old wave (cond same (wave_up_to wave promise.upto) wave)) upto
    go true same = refl
    go false true = refl
    go false false = refl

-- what is cut from its base on is the same
pub cut-from : (wave : Wave) (upto from : ℕ) → upto ≤ from → cut (wave_from wave upto) from ≡ cut wave from
cut-from wave upto from h =
    let same : at_or_after from (at_or_after upto wave.changes) ≡ at_or_after from wave.changes = at_or_after-later upto from wave.changes h in
    rw same refl
