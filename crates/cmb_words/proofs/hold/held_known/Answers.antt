use Rattle.std.proofs.Common.{◌≡◌, ℕ, zero, suc, ◌-◌, ◌<◌, ◌≤◌, ◌⊎◌, inl, inr, true, false, Bool, if◌then◌else◌, nat_le, ◌&&◌, ◌%◌, sym, ap, subst, ◌∙◌, arith}
use Rattle.std.specs.Prelude.{◌==◌}
use Rattle.std.proofs.lemmas.Bool.{cases_lt}
use Rattle.cmb_wave.specs.declared.level.Level.{Level}
use Rattle.cmb_words.specs.Bits.{level_in}
use Rattle.cmb_words.proofs.GateFacts.{is_known, level-known, known-level}
use Rattle.cmb_words.proofs.hold.held_known.Goals as goal
use Rattle.cmb_words.proofs.hold.held_known.Goals.{After-held_any}

known-if : (b : Bool) (x y : Level) → is_known x ≡ true → is_known y ≡ true → is_known (if b then x else y) ≡ true
known-if true x y h k = h
known-if false x y h k = k

module _ (c : After-held_any) where
  -- one place more
  on : (i : ℕ) → suc i < 64 → is_known (level_in c.held_any.result.ones c.held_any.result.unknown (suc i - 1)) ≡ true → (suc i < c.args.from) ⊎ (c.args.from ≤ suc i)
      → is_known (level_in c.held_any.result.ones c.held_any.result.unknown (suc i)) ≡ true
  on i small before (inl l) = ap is_known (c.held_any.ensures.below (suc i) l) ∙ known-level c.args.own (suc i)
  on i small before (inr l) = ap is_known (c.held_any.ensures.from (suc i) l small) ∙ known-if _ _ _ (known-level c.args.input (suc i - c.args.delay)) before

  known : (i : ℕ) → i < 64 → is_known (level_in c.held_any.result.ones c.held_any.result.unknown i) ≡ true
  known zero small = ap is_known (c.held_any.ensures.below 0 (omega (arith, c.requires.least))) ∙ known-level c.args.own 0
  known (suc i) small =
      let e : i ≡ suc i - 1 = omega arith in
      on i small (subst (λ (k : ℕ). is_known (level_in c.held_any.result.ones c.held_any.result.unknown k) ≡ true) e (known i (omega (arith, small)))) (cases_lt (suc i) c.args.from)

  same : (i : ℕ) → i < 64 → level_in c.held_any.result.ones 0 i ≡ level_in c.held_any.result.ones c.held_any.result.unknown i
  same i small = level-known c.held_any.result.ones c.held_any.result.unknown i (c.held_any.result.apart i small) (known i small)

pub returns : goal.returns
returns c = record {
  below = λ i l. same c i (omega (arith, l, c.requires.most)) ∙ c.held_any.ensures.below i l;
  from = λ i l small.
      same c i small ∙ c.held_any.ensures.from i l small
      ∙ ap (λ level. if nat_le c.args.arrival i && ((i - c.args.arrival) % c.args.period == 0) then level_in c.args.input 0 (i - c.args.delay) else level)
      (sym (same c (i - 1) (omega (arith, small))));
}
