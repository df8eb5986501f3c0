use Rattle.std.proofs.Common.{rules, ◌≡◌, ◌<◌, length, true, get_or, set, arith, sym, ◌∙◌, ap, subst}
use Rattle.std.proofs.Math.Seq.{map-set_same}
use Rattle.std.proofs.lemmas.Bool.{not-false}
use Rattle.std.proofs.lemmas.List.{get_or_read}
use Rattle.cmb_wave.specs.Wave.{Wave, new_wave}
use Rattle.cmb_core_cluster.specs.Clusters.{Cluster, IsSound, process_at, slot_wave, wave_nets}
use Rattle.cmb_core_cluster.specs.Rows.{is_given}
use Rattle.cmb_core_cluster.specs.Directory.{readers_from}
use Rattle.cmb_core_cluster.specs.Trims.{least_need, trimmed_to}
use Rattle.cmb_core_cluster.proofs.ClusterLemmas.{directory_stays}
use Rattle.cmb_core_cluster.proofs.TrimFacts.{trim_net, trim_sound}
use Rattle.cmb_core_cluster.proofs.cluster.Cluster.trim_at.Goals as goal

-- the wave that comes back
trimmed : (c : goal.After-self-1) → c.trim_to.new.wave ≡ trimmed_to (least_need c.self.inside.processes.items c.self.inside.waves.items (readers_from c.args.slot 0 c.self.inside.processes.items) (get_or c.self.inside.waves.items c.args.slot (new_wave 0)).clock) (get_or c.self.inside.waves.items c.args.slot (new_wave 0))
trimmed c =
    let i = c.self.inside in
    let there : c.args.slot < length i.waves.items = omega (arith, ap (λ s. length s.waves) c.self.view_is, c.requires) in
    let was : c.index_mut.result.now ≡ get_or i.waves.items c.args.slot (new_wave 0) = get_or_read _ _ _ there c.index_mut.ensures.value (new_wave 0) in
    let least = c.least_need_at-least.ensures.least ∙ ap (λ s. least_need s.processes s.waves (readers_from c.args.slot 0 s.processes) (slot_wave s c.args.slot).clock) (sym c.self.view_is) in
    c.trim_to.ensures ∙ ap (trimmed_to c.least_need_at-least.result) was ∙ ap (λ n. trimmed_to n (get_or i.waves.items c.args.slot (new_wave 0))) least

nets : (c : goal.After-self-1) → wave_nets (set c.self.inside.waves.items c.args.slot c.trim_to.new.wave) ≡ wave_nets c.self.inside.waves.items
nets c = map-set_same (λ v. v.net) c.self.inside.waves.items c.args.slot c.trim_to.new.wave (new_wave 0) (ap (λ (w : Wave). w.net) (trimmed c) ∙ trim_net _ (get_or c.self.inside.waves.items c.args.slot (new_wave 0)))

pub invariant_of-self : goal.invariant_of-self
invariant_of-self c =
    let i = c.self.inside in
    let there : c.args.slot < length i.waves.items = omega (arith, ap (λ s. length s.waves) c.self.view_is, c.requires) in
    let here : c.is_given.result ≡ true = first_of (cc, search (rules, not-false, c.if-not-is_given.false)) in
    let given = ap (λ s. is_given (process_at s c.args.slot).rule) c.self.view_is ∙ sym (ap (λ p. is_given p.rule) c.process.ensures) ∙ sym c.is_given.ensures ∙ here in
    let s : Cluster = record { horizon = i.horizon; processes = i.processes.items; waves = i.waves.items } in
    let P : Wave → Type 0 = λ w. IsSound (record { horizon = i.horizon; processes = i.processes.items; waves = set i.waves.items c.args.slot w }) in
    record {
      sound = subst P (sym (trimmed c)) (trim_sound s c.self.invariant.sound c.args.slot there given);
      directory = directory_stays _ _ _ _ (nets c) c.self.invariant.directory;
    }

pub returns-clause-same : goal.returns-clause-same
returns-clause-same c = record { horizon = ap (λ t. t.horizon) c.self.view_is; processes = ap (λ t. t.processes) c.self.view_is; nets = nets c ∙ ap (λ t. wave_nets t.waves) c.self.view_is }
