use Rattle.std.proofs.Common.{◌≡◌, sym, ◌∙◌, ap, map, List, ◌++◌, ◌∷◌, [], arith}
use Rattle.std.specs.List.{range_with_len}
use Rattle.std.proofs.lemmas.List.Elements.{All-same}
use Rattle.std.proofs.lemmas.List.FromFn.{map-range_with_len_more}
use Rattle.cmb_wave.specs.Wave.{Wave}
use Rattle.cmb_design_model.specs.Exact.{IsExactWaveIn, nets_of}
use Rattle.cmb_design_model.specs.Plain.{whole_wave, whole_waves}
use Rattle.cmb_design_model.proofs.PlainFacts.{whole-all}
use Rattle.cmb_design_model.proofs.plain.waves_of.Goals as goal

pub loop-net-preserved : goal.loop-net-preserved
loop-net-preserved c =
    c.in_ok-push.ensures.items
    ∙ ap (λ (wave : Wave). c.loop-net.waves.items ++ wave ∷ []) c.in_ok-wave_of.ensures
    ∙ ap (λ (waves : List Wave). waves ++ whole_wave c.args.design.now c.loop-net.net ∷ []) c.loop-net.invariant
    ∙ sym (map-range_with_len_more (whole_wave c.args.design.now) 0 c.loop-net.net c.loop-net.net (omega arith))

pub returns-clause-exact : goal.returns-clause-exact
returns-clause-exact c =
    let nets : c.loop-net.net ≡ nets_of c.args.design.now = omega (arith, c.in_ok-table.ensures.nets) in
    let whole : c.loop-net.waves.items ≡ whole_waves c.args.design.now = c.loop-net.invariant ∙ ap (λ n. map (whole_wave c.args.design.now) (range_with_len 0 n)) nets in
    All-same (IsExactWaveIn c.args.design.now) c.loop-net.waves.items (whole_waves c.args.design.now) whole (whole-all c.args.design.now)

pub wave_of-requires : goal.wave_of-requires
wave_of-requires c = record { filled = c.in_ok-table.ensures; net = omega (arith, c.loop-net-test.true, c.in_ok-table.ensures.nets); few = c.requires.wired.few }

pub returns-clause-waves : goal.returns-clause-waves
returns-clause-waves c =
    let nets : c.loop-net.net ≡ nets_of c.args.design.now = omega (arith, c.in_ok-table.ensures.nets) in
    c.loop-net.invariant ∙ ap (λ n. map (whole_wave c.args.design.now) (range_with_len 0 n)) nets
