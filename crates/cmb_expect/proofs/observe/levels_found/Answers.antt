use Rattle.std.proofs.Common.{◌≡◌, ℕ, List, length, arith, ap, subst, sym, ◌∙◌}
use Rattle.cmb_wave.specs.declared.level.Level.{Level}
use Rattle.cmb_design_model.specs.Exact.{nets_of}
use Rattle.cmb_design_model.specs.Value.{value}
use Rattle.cmb_expect.specs.Inner.Probes.{AreFound, AreLawful}
use Rattle.cmb_expect.specs.declared.probe.Probe.{Probe}
use Rattle.cmb_expect.proofs.FoundFacts.{all_found}
use Rattle.cmb_expect.proofs.ProbeFacts.{lawful}
use Rattle.cmb_expect.proofs.TraceFacts.{written_back}
use Rattle.cmb_expect.proofs.observe.levels_found.Goals as goal

pub find_all-requires-clause-probes : goal.find_all-requires-clause-probes
find_all-requires-clause-probes c =
    let many : length c.args.rows.now ≡ length c.deref_mut-2.result.now = omega (arith, c.in_ok-found.ensures.len, c.in_ok-found.found.ok, ap length c.deref_mut-2.ensures.value) in
    subst (λ (n : ℕ). AreLawful (nets_of c.args.design.now) n c.args.design.now.horizon c.deref.result.now) many
    (subst (AreLawful (nets_of c.args.design.now) (length c.args.rows.now) c.args.design.now.horizon) (sym c.deref.ensures.value)
    (lawful c.args.rows.now c.in_ok-probes.probes.items (nets_of c.args.design.now) c.args.design.now.horizon c.in_ok-probes.ensures c.requires.rows))

pub returns : goal.returns
returns c =
    let many : length c.find_all.new.found ≡ length c.in_ok-found.found.items = omega (arith, c.find_all.auto.found, ap length c.deref_mut-2.ensures.value) in
    let back = written_back c.in_ok-found.found.items c.find_all.new.found c.in_ok-found.found.len many (omega (arith, c.in_ok-found.found.ok)) in
    let probes : c.deref.result.now ≡ c.in_ok-probes.probes.items = c.deref.ensures.value in
    back ∙ all_found c.args.design.now c.args.rows.now c.in_ok-probes.probes.items c.find_all.new.found c.in_ok-probes.ensures (omega (arith, many, c.in_ok-found.ensures.len, c.in_ok-found.found.ok))
    (subst (λ (list : List Probe). AreFound (value c.args.design.now) list (length list) c.find_all.new.found) probes c.in_ok-find_all.ensures)
