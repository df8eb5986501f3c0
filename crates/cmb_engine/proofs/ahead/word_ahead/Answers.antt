use Rattle.cmb_words.specs.Word.{level_at_place}
use Rattle.cmb_engine.specs.Inner.Planes.{planes_of}
use Rattle.cmb_engine.proofs.AheadFacts.{moved-held}
use Rattle.cmb_engine.proofs.ahead.word_ahead.Goals as goal

pub returns : goal.returns
returns c =
    moved-held c.args.words.now c.advanced.result c.advanced-2.result c.args.slot c.args.ticks c.args.arrival c.args.clock c.args.pin c.get.result c.get-2.result
    (level_at_place c.held.result) c.requires.some c.requires.fits c.requires.slot (c.get.ensures (planes_of c.get.result)) c.requires.lawful.1 (c.get-2.ensures (planes_of c.get-2.result)) c.advanced.ensures c.advanced-2.ensures c.held.ensures
