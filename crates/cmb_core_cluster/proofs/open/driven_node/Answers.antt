use Rattle.std.proofs.Common.{ℕ, List, Option, Result, Ok, Err, IfOk}
use Rattle.std.specs.declared.alloc.AllocError.{AllocError}
use Rattle.cmb_core_cluster.specs.Inner.Opening.{StartsOn}
use Rattle.cmb_core_cluster.specs.Rows.{Process}
use Rattle.cmb_core_cluster.proofs.open.driven_node.Goals as goal

pub returns-in-Input-clause-starts : goal.returns-in-Input-clause-starts
returns-in-Input-clause-starts c = go c.input_node.result c.input_node.ensures.starts
  where
    go : (r : Result Process AllocError) → IfOk r (λ node. (places : List (Option ℕ)) → StartsOn places node) → IfOk r (λ node. StartsOn c.args.places.now node)
    go (Ok node) h = h c.args.places.now
    go (Err e) h = h
