-- Exact waves stay exact.
use Rattle.std.proofs.Common.{Bool, true, false, cond, eqb, leb, ltb, refl, None, Ok}
use Rattle.std.proofs.Common.{◌≡◌, ℕ, ◌<◌, ◌≤◌, [], ◌++◌, ap, sym, ◌∙◌, arith}
use Rattle.std.proofs.lemmas.List.{append-nil}
use Rattle.std.proofs.lemmas.Bool.{le-ltb, lt-leb, leb-false, eqb-true}
use Rattle.cmb_wave.specs.declared.level.Level.{Level}
use Rattle.cmb_wave.specs.declared.level.Promise.{Promise}
use Rattle.cmb_wave.specs.Waveform.{changes_between, count_below, level_at, last_level, at_or_after, clash}
use Rattle.cmb_wave.proofs.Spans.{Alternates, clash-none}
use Rattle.cmb_wave.specs.Wave.{Piece, Wave, IsExactPiece, IsExactWave, IsRightPromise, wave_with_piece, wave_up_to, wave_from}
use Rattle.cmb_wave.specs.Calls.{taken, heard_wave}
use Rattle.cmb_wave.proofs.Waveforms.{changes_between-append, changes_between-none, changes_between-alternates, count_below-add, at_or_after-changes_between, changes_below-changes_between, last_level-changes_between, level_at-changes_between}

module _ (level : ℕ → Level) (horizon : ℕ) (wave : Wave) (exact : IsExactWave level horizon wave) where
  -- what a piece adds is what comes after the clock
  pub added-exact : (piece : Piece) → IsExactPiece level horizon piece → piece.from ≤ wave.clock → wave.clock ≤ piece.to → at_or_after wave.clock piece.changes ≡ changes_between level wave.clock piece.to
  added-exact piece p a b = rw p.changes (at_or_after-changes_between level piece.from wave.clock piece.to a b)

  pub with_piece-exact : (piece : Piece) → IsExactPiece level horizon piece → piece.from ≤ wave.clock → wave.clock ≤ piece.to → IsExactWave level horizon (wave_with_piece wave piece)
  with_piece-exact piece p a b =
      let added : at_or_after wave.clock piece.changes ≡ changes_between level wave.clock piece.to = added-exact piece p a b in
      record {
        base = omega (arith, exact.base);
        within = p.within;
        count = rw (added, exact.count) (sym (count_below-add level wave.clock piece.to b));
        changes = rw (added, exact.changes) (changes_between-append level wave.base wave.clock piece.to exact.base b);
        kept = exact.kept;
      }

  -- the first change that a piece adds is to another level than the wave's last: exact waves and pieces never clash
  pub added-alternates : (piece : Piece) → IsExactPiece level horizon piece → piece.from ≤ wave.clock → wave.clock ≤ piece.to → Alternates (last_level wave.kept wave.changes) (at_or_after wave.clock piece.changes)
  added-alternates piece p a b =
      let added : at_or_after wave.clock piece.changes ≡ changes_between level wave.clock piece.to = added-exact piece p a b in
      rw (added, exact.changes, exact.kept, last_level-changes_between level wave.base wave.clock exact.base) (changes_between-alternates level wave.clock piece.to)

  -- so a piece that goes on from the wave is taken
  pub taken-exact : (piece : Piece) → IsExactPiece level horizon piece → piece.from ≤ wave.clock → wave.clock < piece.to → taken wave piece ≡ Ok (wave_with_piece wave piece)
  taken-exact piece p a b =
      let no_gap : ltb wave.clock piece.from ≡ false = le-ltb wave.clock piece.from a in
      let not_old : leb piece.to wave.clock ≡ false = lt-leb piece.to wave.clock b in
      let fits : clash (last_level wave.kept wave.changes) (at_or_after wave.clock piece.changes) ≡ None = clash-none _ _ (added-alternates piece p a (omega arith)) in
      rw (no_gap, not_old, fits) refl

  pub up_to-exact : (upto : ℕ) → wave.clock ≤ upto → upto ≤ horizon → wave.count ≡ count_below level upto → IsExactWave level horizon (wave_up_to wave upto)
  up_to-exact upto a b same =
      let counts : count_below level wave.clock ≡ count_below level upto = sym exact.count ∙ same in
      let none : changes_between level wave.clock upto ≡ [] = changes_between-none level wave.clock upto a counts in
      record {
        base = omega (arith, exact.base);
        within = b;
        count = same;
        changes = exact.changes ∙ sym (append-nil _) ∙ ap (λ cs. changes_between level wave.base wave.clock ++ cs) (sym none) ∙ changes_between-append level wave.base wave.clock upto exact.base a;
        kept = exact.kept;
      }

  -- a wave stays exact whatever right promise it hears
  pub heard-exact : (promise : Promise) → IsRightPromise level horizon promise → IsExactWave level horizon (heard_wave wave promise)
  heard-exact promise right = go (leb promise.upto wave.clock) refl (eqb wave.count promise.count) refl
    where
      go : (old : Bool) → leb promise.upto wave.clock ≡ old → (same : Bool) → eqb wave.count promise.count ≡ same → IsExactWave level horizon (cond old wave (cond same (wave_up_to wave promise.upto) wave))
      go true e same f = exact
      go false e true f =
          let later : wave.clock < promise.upto = leb-false promise.upto wave.clock e in
          up_to-exact promise.upto (omega arith) right.within (eqb-true wave.count promise.count f ∙ right.count)
      go false e false f = exact

  pub from-exact : (upto : ℕ) → wave.base ≤ upto → upto ≤ wave.clock → IsExactWave level horizon (wave_from wave upto)
  from-exact upto a b =
      record {
        base = b;
        within = exact.within;
        count = exact.count;
        changes = rw exact.changes (at_or_after-changes_between level wave.base upto wave.clock a b);
        kept = rw (exact.changes, exact.kept, changes_below-changes_between level wave.base upto wave.clock a b) (last_level-changes_between level wave.base upto a);
      }

  pub level_at-exact : (tick : ℕ) → wave.base ≤ tick → tick < wave.clock → level_at wave.kept wave.changes tick ≡ level tick
  level_at-exact tick a b = rw (exact.changes, exact.kept) (level_at-changes_between level wave.base wave.clock tick a b)

  pub cut-exact : (from : ℕ) → wave.base ≤ from → from ≤ wave.clock → at_or_after from wave.changes ≡ changes_between level from wave.clock
  cut-exact from a b = rw exact.changes (at_or_after-changes_between level wave.base from wave.clock a b)
