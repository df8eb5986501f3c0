use Rattle.std.proofs.Common.{rules}
use Rattle.std.proofs.lemmas.Result.{IfOk-weaker}
use Rattle.cmb_cone.proofs.FoundFacts.{closure_is}
use Rattle.cmb_cone.proofs.closed.closure.Goals as goal

pub returns : goal.returns
returns c = IfOk-weaker c.marked.result _ _
    (λ nets is. closure_is c.args.netlist.now c.args.wanted.now c.add_all.new.self.list.items c.follow.new.found nets.items c.in_ok-follow.ensures.found
    (search rules) (rw c.in_ok-found.ensures.2 at c.in_ok-add_all.ensures.gains) c.in_ok-follow.ensures.follows (rw c.as_slice.ensures.value at is))
    c.marked.ensures
