use Rattle.std.proofs.Common.{[], ◌∷◌}
use Rattle.cmb_words.specs.Word.{level_at_place}
use Rattle.cmb_words.proofs.GateFacts.{joint-first}
use Rattle.cmb_words.proofs.gates.gate1.Goals as goal

pub returns : goal.returns
returns c i small =
    c.completed.ensures i small (level_at_place c.args.operand i ∷ []) (joint-first c.args.kind (level_at_place c.args.operand i))
