use Rattle.std.proofs.Common.{◌≡◌, ◌-◌, arith, length, ap, ◌∙◌}
use Rattle.std.proofs.lemmas.List.{length-drop}
use Rattle.cmb_wave.specs.Waveform.{below}
use Rattle.cmb_wave.proofs.Lists.{below_length, take_below}
use Rattle.cmb_design_model.proofs.samples.told_before.Goals as goal

pub returns : goal.returns
returns c =
    let cs = c.args.changes.now in
    let tick = c.args.tick in
    let rest = ap length c.left_from.ensures.changes ∙ length-drop (below tick cs) cs in
    let count : length cs - length c.left_from.result.changes.now ≡ below tick cs = omega (arith, rest, below_length tick cs) in
    rw count (take_below 0 tick cs c.requires)
