use Rattle.std.proofs.Common.{ℕ, Vec, Global, ap, sym, ◌∙◌}
use Rattle.cmb_bench.proofs.ListedFacts.{left_out, passed}
use Rattle.cmb_bench.proofs.listed.meant_nets.Goals.{then-is_meant+in-Ok, else-is_meant}
use Rattle.cmb_bench.proofs.listed.meant_nets.Goals as goal

pub loop-net-preserved : goal.loop-net-preserved
loop-net-preserved c =
    elim c.if-is_meant.branch [
      | then-is_meant+in-Ok w ↦ passed _ c.loop-net.net c.loop-net.nets.items _ c.loop-net.invariant (sym c.is_meant.ensures ∙ w.if-is_meant.true) (ap (λ (v : Vec ℕ Global). v.items) w.nets-is ∙ w.in-Ok.ensures.items)
      | else-is_meant w ↦ left_out _ c.loop-net.net c.loop-net.nets.items _ c.loop-net.invariant (sym c.is_meant.ensures ∙ w.if-is_meant.false) (ap (λ (v : Vec ℕ Global). v.items) w.nets-is)
    ]
