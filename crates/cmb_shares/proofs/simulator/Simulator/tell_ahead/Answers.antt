use Rattle.std.proofs.Common.{subst}
use Rattle.std.specs.Prelude.{Contains}
use Rattle.cmb_design_model.specs.Design.{Design}
use Rattle.cmb_design_model.specs.Value.{value}
use Rattle.cmb_engine.specs.Shares.{TellsThose}
use Rattle.cmb_shares.proofs.ToldFacts.{on_ok_two, told-fed}
use Rattle.cmb_shares.proofs.simulator.Simulator.tell_ahead.Goals as goal

pub returns : goal.returns
returns g c =
    let run = g.T.ShareRun.run in
    let s = c.args.self.now in
    let is = c.requires.simulates in
    let told = c.tell_ahead.new.told.items in
    on_ok_two c.tell_ahead.result
    (λ only tells reader within.
    told-fed run s reader s.engine.clock c.args.upto told is within only
    (subst (λ (d : Design). TellsThose (Contains s.engine.exports) (value d) s.engine.clock c.args.upto told) is.design tells))
    c.tell_ahead.ensures.only c.tell_ahead.ensures.tells
