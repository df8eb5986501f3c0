use Rattle.std.proofs.Common.{◌∙◌, ap, if◌then◌else◌}
use Rattle.cmb_wave.specs.declared.level.Level.TheVariants.{One}
use Rattle.cmb_words.specs.Inner.Masked.{inverse_if}
use Rattle.cmb_words.specs.Word.{level_at_place}
use Rattle.cmb_words.proofs.GateFacts.{gate-made}
use Rattle.cmb_words.proofs.gates.gate2_any.Goals as goal

pub returns : goal.returns
returns c i small =
    let by = c.masks_of-operands.ensures in
    let a = level_at_place c.args.a i in
    let b = level_at_place c.args.b i in
    let inverted = level_at_place c.inverted_where.result i in
    let joined = level_at_place c.both.result i in
    let odd = level_at_place c.differing.result i in
    let chosen = level_at_place c.chosen-joined.result i in
    gate-made c.args.kind a b _ inverted _ joined odd chosen _
    (c.inverted_where-first.ensures i small ∙ ap (λ m. inverse_if m a) (by.operands i small))
    (c.inverted_where.ensures i small ∙ ap (λ m. inverse_if m b) (by.operands i small))
    (c.ones_where-other.ensures i small ∙ ap (λ m. if m then One else inverted) (by.second i small))
    (c.both.ensures i small)
    (c.differing.ensures i small)
    (c.chosen-joined.ensures i small ∙ ap (λ m. if m then odd else joined) (by.parity i small))
    (c.inverted_where-2.ensures i small ∙ ap (λ m. inverse_if m chosen) (by.inverse i small))
