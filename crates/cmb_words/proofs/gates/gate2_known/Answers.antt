use Rattle.std.proofs.Common.{◌≡◌, true, ap, ◌∙◌}
use Rattle.cmb_words.specs.Bits.{level_in}
use Rattle.cmb_words.proofs.GateFacts.{is_known, gate-known, level-known, known-level}
use Rattle.cmb_words.proofs.gates.gate2_known.Goals as goal

pub returns : goal.returns
returns c i small =
    let word = c.gate2_any.result in
    let made = c.gate2_any.ensures i small in
    let known : is_known (level_in word.ones word.unknown i) ≡ true =
    ap is_known made
    ∙ gate-known c.args.kind (level_in c.args.a 0 i) (level_in c.args.b 0 i) (known-level c.args.a i) (known-level c.args.b i) in
    level-known word.ones word.unknown i (word.apart i small) known ∙ made
