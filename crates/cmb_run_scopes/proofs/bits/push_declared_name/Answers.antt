use Rattle.std.proofs.Common.{◌≡◌, false, rules}
use Rattle.cmb_run_scopes.proofs.BitFacts.{declared-bit, declared-other}
use Rattle.cmb_run_scopes.specs.Scopes.{is_bit}
use Rattle.cmb_run_scopes.proofs.bits.push_declared_name.Goals as goal

pub returns-in_ok-extend_from_slice-in-Some-3 : goal.returns-in_ok-extend_from_slice-in-Some-3
returns-in_ok-extend_from_slice-in-Some-3 c =
    declared-bit c.args.part.now c.args.out.now.items c.push_reference.new.out.items c.extend_from_slice.new.self.items c.extend_from_slice-in-Some.new.self.items
    c.extend_from_slice-in-Some-2.new.self.items c.in-Some.bus.now c.in-Some.index.now (search rules) (search rules) (search rules)
    c.in_ok-push_reference-in-Some.ensures c.in_ok-extend_from_slice-in-Some.ensures.items c.in_ok-extend_from_slice-in-Some-2.ensures.items
    c.in_ok-extend_from_slice-in-Some-3.ensures.items

pub returns-in-None : goal.returns-in-None
returns-in-None c =
    let other : is_bit c.args.part.now ≡ false = c.in-None.ensures in
    rw (declared-other c.args.part.now other) c.push_reference-in-None.ensures
