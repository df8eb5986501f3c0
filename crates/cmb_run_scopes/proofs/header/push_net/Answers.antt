use Rattle.cmb_run_scopes.proofs.HeaderFacts.{net-written}
use Rattle.cmb_run_scopes.proofs.header.push_net.Goals as goal

pub returns : goal.returns
returns c =
    net-written c.args.place c.args.part.now c.args.out.now.items c.extend_from_slice.new.self.items c.push_code.new.out.items c.extend_from_slice-2.new.self.items
    c.push_declared_name.new.out.items c.extend_from_slice-3.new.self.items c.in_ok-extend_from_slice.ensures.items c.in_ok-push_code.ensures c.in_ok-extend_from_slice-2.ensures.items
    c.in_ok-push_declared_name.ensures c.in_ok-extend_from_slice-3.ensures.items
