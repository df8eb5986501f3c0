use Rattle.std.proofs.Common.{rules, ◌≡◌, ℕ, ◌≤◌, ◌<◌, ◌∙◌, ap, arith, length, map, subst, sym}
use Rattle.std.proofs.lemmas.List.{length-map}
use Rattle.cmb_wave.specs.Wave.{Wave, wave_from}
use Rattle.cmb_run_text.specs.Collector.{AreInPlace, wave_of}
use Rattle.cmb_run_text.proofs.ForgetFacts.{forgot_in_place, in_place, least_clock-least}
use Rattle.cmb_run_text.proofs.collector.Collector.forget.Goals as goal

pub forget_all-requires-clause-known : goal.forget_all-requires-clause-known
forget_all-requires-clause-known c =
    let same : c.deref_mut.result.now ≡ c.args.self.now.waves = search rules in
    let known : (net : ℕ) → net < length c.args.self.now.waves → c.args.upto ≤ (wave_of c.args.self.now.waves net).clock =
    λ net h. omega (arith, c.requires.known, least_clock-least c.args.self.now.horizon c.args.self.now.waves net h)
    in
    rw same known

pub invariant_of-self : goal.invariant_of-self
invariant_of-self c =
    let items = c.self.inside.waves.items in
    let forgets = λ (wave : Wave). wave_from wave c.args.upto in
    let next : c.forget_all.new.waves ≡ map forgets items = c.forget_all.ensures ∙ ap (map forgets) c.deref_mut.ensures.value in
    let long : length c.forget_all.new.waves ≡ length items = ap length next ∙ length-map items forgets in
    let len : length items ≡ c.self.inside.waves.len = search rules in
    let same = in_place c.self.inside.waves.len c.forget_all.new.waves items long len ∙ next in
    subst (AreInPlace c.self.inside.horizon) (sym same) (forgot_in_place c.self.inside.horizon items c.args.upto c.self.invariant)
