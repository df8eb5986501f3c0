use Rattle.cmb_core_world.specs.Play.{shown}
use Rattle.cmb_core_world.proofs.Runs.{play_replies, play_shows}
use Rattle.cmb_core_world.proofs.world.World.play.Goals as goal

pub returns-clause-sequential : goal.returns-clause-sequential
returns-clause-sequential c = λ design clustering past of reached.
    play_replies design clustering (shown c.args.self.now) (shown c.answer.new.self) past c.args.event c.answer.result of.netlist of.lawful reached (c.answer.ensures.played design clustering of)

pub returns-clause-exact : goal.returns-clause-exact
returns-clause-exact c = λ design clustering past of reached.
    play_shows design clustering (shown c.args.self.now) (shown c.answer.new.self) past c.args.event c.answer.result of.netlist of.lawful reached (c.answer.ensures.played design clustering of)
