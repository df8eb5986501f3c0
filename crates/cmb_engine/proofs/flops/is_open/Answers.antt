use Rattle.std.proofs.Common.{◌+◌, ◌-◌, ◌<◌, ◌≤◌, ◌⊎◌, inl, inr, ◌%◌, ◌==◌, ℕ}
use Rattle.std.proofs.lemmas.Bool.{cases_lt, ltb-false}
use Rattle.cmb_engine.proofs.GroupFacts.{none-arrives}
use Rattle.cmb_engine.proofs.flops.is_open.Goals as goal

pub returns : goal.returns
returns c = λ shut place from small arrives.
    let late : 64 ≤ c.first_arrival.result = ltb-false _ _ shut in
    let go : (place < c.args.first + c.args.delay) ⊎ (c.args.first + c.args.delay ≤ place) → place < c.args.first + c.args.delay =
    λ h. elim h [
      | inl l ↦ l
      | inr l ↦
          absurd (none-arrives c.args.clock c.args.delay c.args.to (c.args.first + c.args.delay) c.first_arrival.result place
          (λ (p : ℕ). (p - c.first_arrival.result) % c.args.clock.period == 0) late small (c.first_arrival.ensures.arrives place l small) arrives)
    ] in
    go (cases_lt place (c.args.first + c.args.delay))
