use Rattle.std.proofs.Common.{◌+◌, ◌*◌, subst}
use Rattle.cmb_engine.specs.Inner.Flags.{AreFlags, NoFlags}
use Rattle.cmb_engine.proofs.FlagFacts.{next-none, next-some}
use Rattle.cmb_engine.proofs.flags.Flags.next_in.Goals as goal

pub returns-in_err-bit : goal.returns-in_err-bit
returns-in_err-bit c =
    let none : NoFlags c.args.self.now (8 * c.args.number + c.args.place) (8 * c.args.number + 8) =
    next-none c.self.inside.groups c.args.number c.group.result c.args.self.now (subst (AreFlags c.self.inside.groups) c.self.view_is c.self.invariant) c.requires.group c.group.type_inv c.group.ensures
    c.args.place c.requires.place c.in_err-bit.ensures.lowest in
    rw c.from_residual.ensures none

pub returns : goal.returns
returns c =
    next-some c.self.inside.groups c.args.number c.group.result c.args.self.now (subst (AreFlags c.self.inside.groups) c.self.view_is c.self.invariant) c.requires.group c.group.type_inv c.group.ensures
    c.args.place c.in_ok-bit.bit c.requires.place c.in_ok-bit.ensures.lowest
