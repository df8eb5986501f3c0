use Rattle.cmb_run_scopes.proofs.HeaderFacts.{scope-written}
use Rattle.cmb_run_scopes.proofs.header.push_scope.Goals as goal

pub returns : goal.returns
returns c =
    scope-written c.args.part.now c.args.out.now.items c.extend_from_slice.new.self.items c.push_reference.new.out.items c.extend_from_slice-2.new.self.items
    c.in_ok-extend_from_slice.ensures.items c.in_ok-push_reference.ensures c.in_ok-extend_from_slice-2.ensures.items
