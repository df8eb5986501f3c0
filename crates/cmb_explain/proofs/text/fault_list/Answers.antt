use Rattle.std.proofs.Common.{arith}
use Rattle.cmb_explain.proofs.Rows.{kept, no_more, one_more}
use Rattle.cmb_explain.proofs.text.fault_list.Goals.{in-Some+in_ok-push_row, in_default}
use Rattle.cmb_explain.proofs.text.fault_list.Goals as goal

pub loop-number-preserved : goal.loop-number-preserved
loop-number-preserved c =
    elim c.match-explanation_of.branch [
      | in-Some+in_ok-push_row w ↦
          let e = rw (w.in-Some.ensures.number, w.in-Some.ensures.place) at w.in_ok-push_row.ensures in
          rw (w.text-is, e) (one_more _ _ _ c.loop-number.invariant)
      | in_default w ↦ rw (w.text-is) (no_more _ _ c.loop-number.invariant w.in_default.ensures.known.1)
    ]

pub returns : goal.returns
returns c = λ number most known. rw (c.in_ok-push_str.ensures.bytes) (kept _ _ number (c.loop-number.invariant number (omega arith) known))
