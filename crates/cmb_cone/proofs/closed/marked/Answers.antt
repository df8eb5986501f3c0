use Rattle.std.proofs.Common.{ℕ, Vec, Global, ap, false, get_or, ◌∙◌}
use Rattle.cmb_cone.proofs.FoundFacts.{marked_yes, marked_no}
use Rattle.cmb_cone.proofs.closed.marked.Goals as goal
use Rattle.cmb_cone.proofs.closed.marked.Goals.{then-marks-net+in_ok-push, else-marks-net}

pub loop-net-preserved : goal.loop-net-preserved
loop-net-preserved c =
    elim c.if-marks-net.branch [
      | then-marks-net+in_ok-push w ↦
          marked_yes (λ net. get_or c.args.marks.now net false) c.loop-net.net c.loop-net.nets.items _ c.loop-net.invariant w.if-marks-net.true (ap (λ (v : Vec ℕ Global). v.items) w.nets-is ∙ w.in_ok-push.ensures.items)
      | else-marks-net w ↦
          marked_no (λ net. get_or c.args.marks.now net false) c.loop-net.net c.loop-net.nets.items _ c.loop-net.invariant w.if-marks-net.false (ap (λ (v : Vec ℕ Global). v.items) w.nets-is)
    ]
