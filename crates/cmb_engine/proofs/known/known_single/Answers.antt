use Rattle.std.proofs.Common.{[], ◌∷◌, ◌∙◌}
use Rattle.cmb_words.proofs.GateFacts.{joint-first}
use Rattle.cmb_engine.specs.Inner.Cells.{seen}
use Rattle.cmb_engine.specs.Inner.Known.{known_levels}
use Rattle.cmb_engine.proofs.known.known_single.Goals as goal

pub returns : goal.returns
returns c = λ place from small.
    let sees = seen (known_levels c.args.ones.now) place c.args.pin in
    c.completed_known.ensures place small (sees ∷ []) (c.seen_ones.ensures place from small ∙ joint-first c.args.kind sees)
