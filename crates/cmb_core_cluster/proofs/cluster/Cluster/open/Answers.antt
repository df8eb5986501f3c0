use Rattle.std.proofs.Common.{◌≡◌, ◌<◌, ℕ, None, length, get_or, List, map, arith, sym, ◌∙◌, ap, subst}
use Rattle.std.specs.Prelude.{All}
use Rattle.std.specs.List.{AllByRecursion}
use Rattle.std.proofs.lemmas.List.Elements.{All-from_recursion}
use Rattle.cmb_wave.specs.Wave.{Wave, new_wave}
use Rattle.cmb_netlist.specs.Netlist.{Netlist, IsNetlist}
use Rattle.cmb_design_model.specs.Exact.{nets_of, IsExactWaveIn}
use Rattle.cmb_core_cluster.specs.Clusters.{IsSound, wave_nets}
use Rattle.cmb_core_cluster.specs.Opened.{held_nets, AreProcessesOf}
use Rattle.cmb_core_cluster.specs.Rows.{Process}
use Rattle.cmb_core_cluster.specs.Directory.{place_in}
use Rattle.cmb_core_cluster.proofs.ExactFacts.{new_exact}
use Rattle.cmb_core_cluster.proofs.OpenedFacts.{held_below, held_length, pins_placed, slots_below, new_nets, opened_sound}
use Rattle.cmb_core_cluster.proofs.cluster.Cluster.open.Goals as goal

pub places_among-requires-clause-there : goal.places_among-requires-clause-there
places_among-requires-clause-there c =
    let P : List ℕ → Type 0 = λ nets. All (λ net. net < c.len.result) nets in
    let size : c.len.result ≡ nets_of c.args.design.now = c.len.ensures.value ∙ ap (λ n. length n.names) c.netlist.ensures in
    let Q : ℕ → Type 0 = λ n. All (λ net. net < n) (held_nets c.args.design.now c.args.clustering.now c.args.cluster) in
    subst P (sym (c.deref.ensures.value ∙ c.in_ok-nets.ensures)) (subst Q (sym size) (held_below c.args.design.now c.args.clustering.now c.args.cluster))

pub places_among-requires-clause-few : goal.places_among-requires-clause-few
places_among-requires-clause-few c =
    omega (arith, ap length (c.deref.ensures.value ∙ c.in_ok-nets.ensures), held_length c.args.design.now c.args.clustering.now c.args.cluster, c.len.ensures.few, ap (λ n. length n.names) c.netlist.ensures)

pub nodes_of-requires-clause-there : goal.nodes_of-requires-clause-there
nodes_of-requires-clause-there c =
    let P : List ℕ → Type 0 = λ nets. All (λ net. net < nets_of c.args.design.now) nets in
    subst P (sym (c.deref-2.ensures.value ∙ c.in_ok-nets.ensures)) (held_below c.args.design.now c.args.clustering.now c.args.cluster)

pub nodes_of-requires-clause-placed : goal.nodes_of-requires-clause-placed
nodes_of-requires-clause-placed c = λ k d h own.
    let below : get_or c.deref-2.result.now k d < nets_of c.args.design.now = nodes_of-requires-clause-there c k d h in
    let N : Netlist → Type 0 = λ n. IsNetlist n in
    let netlist : IsNetlist c.args.design.now.netlist = subst N c.netlist.ensures c.len.ensures.sound in
    pins_placed c.args.design.now c.args.clustering.now c.args.cluster c.deref-3.result.now netlist
    (λ net. ap (λ ps. get_or ps net None) c.deref-3.ensures.value ∙ c.in_ok-places.ensures.places net ∙ ap (λ nets. place_in nets net) (c.deref.ensures.value ∙ c.in_ok-nets.ensures))
    (get_or c.deref-2.result.now k d) below own

pub readers_among-requires-clause-within : goal.readers_among-requires-clause-within
readers_among-requires-clause-within c =
    let at : (net : ℕ) → get_or c.deref-3.result.now net None ≡ place_in c.in_ok-nets.nets.items net = λ net. ap (λ ps. get_or ps net None) c.deref-3.ensures.value ∙ c.in_ok-places.ensures.places net ∙ ap (λ nets. place_in nets net) c.deref.ensures.value in
    let count : length c.in_ok-nets.nets.items ≡ length c.in_ok-processes.processes.items = sym (c.in_ok-processes.ensures.count ∙ ap length c.deref-2.ensures.value) in
    let below : AllByRecursion (λ process. All (λ o. o.slot < length c.in_ok-nets.nets.items) process.operands) c.in_ok-processes.processes.items = slots_below c.deref-3.result.now c.in_ok-nets.nets.items at c.in_ok-processes.processes.items c.in_ok-processes.ensures.start in
    let P : ℕ → Type 0 = λ n. All (λ (process : Process). All (λ o. o.slot < n) process.operands) c.in_ok-processes.processes.items in
    let Q : List Process → Type 0 = λ ps. All (λ process. All (λ o. o.slot < length ps) process.operands) ps in
    subst Q (sym c.deref-6.ensures.value) (subst P count (All-from_recursion (λ process. All (λ o. o.slot < length c.in_ok-nets.nets.items) process.operands) c.in_ok-processes.processes.items below))

pub readers_among-requires-clause-few : goal.readers_among-requires-clause-few
readers_among-requires-clause-few c =
    omega (arith, ap length c.deref-6.ensures.value, c.in_ok-processes.ensures.count, ap length (c.deref-2.ensures.value ∙ c.in_ok-nets.ensures), held_length c.args.design.now c.args.clustering.now c.args.cluster, c.len.ensures.few, ap (λ n. length n.names) c.netlist.ensures)

pub invariant_of-result : goal.invariant_of-result
invariant_of-result c =
    let at : (net : ℕ) → get_or c.deref-3.result.now net None ≡ place_in c.in_ok-nets.nets.items net = λ net. ap (λ ps. get_or ps net None) c.deref-3.ensures.value ∙ c.in_ok-places.ensures.places net ∙ ap (λ nets. place_in nets net) c.deref.ensures.value in
    let waves : c.in_ok-waves.waves.items ≡ map new_wave c.in_ok-nets.nets.items = c.in_ok-waves.ensures ∙ ap (map new_wave) c.deref-7.ensures.value in
    let nets : wave_nets c.in_ok-waves.waves.items ≡ c.in_ok-nets.nets.items = ap wave_nets waves ∙ new_nets c.in_ok-nets.nets.items in
    let count : length c.in_ok-processes.processes.items ≡ length c.in_ok-nets.nets.items = c.in_ok-processes.ensures.count ∙ ap length c.deref-2.ensures.value in
    let S : List Wave → Type 0 = λ ws. IsSound (record { horizon = c.horizon.result; processes = c.in_ok-processes.processes.items; waves = ws }) in
    record {
      sound = subst S (sym waves) (opened_sound c.horizon.result c.deref-3.result.now c.in_ok-nets.nets.items c.in_ok-processes.processes.items at c.in_ok-processes.ensures.start count);
      directory = record {
        places = λ net. c.in_ok-places.ensures.places net ∙ ap (λ ns. place_in ns net) (c.deref.ensures.value ∙ sym nets);
        driven = rw (c.deref-4.ensures.value, c.deref-5.ensures.value, sym nets) at c.in_ok-driven.ensures.0;
        inputs = rw (c.deref-4.ensures.value, c.deref-5.ensures.value, sym nets) at c.in_ok-driven.ensures.1;
        readers = rw c.deref-6.ensures.value at c.in_ok-readers.ensures;
      };
    }

pub returns-clause-of : goal.returns-clause-of
returns-clause-of c =
    let waves : c.in_ok-waves.waves.items ≡ map new_wave c.in_ok-nets.nets.items = c.in_ok-waves.ensures ∙ ap (map new_wave) c.deref-7.ensures.value in
    let P : List ℕ → Type 0 = λ nets. AreProcessesOf c.args.design.now c.args.clustering.now c.args.cluster nets c.in_ok-processes.processes.items in
    record {
      horizon = c.horizon.ensures.value;
      nets = ap wave_nets waves ∙ new_nets c.in_ok-nets.nets.items ∙ c.in_ok-nets.ensures;
      processes = subst P (c.deref-2.ensures.value ∙ c.in_ok-nets.ensures) c.in_ok-processes.ensures.processes;
    }

pub returns-clause-exact : goal.returns-clause-exact
returns-clause-exact c =
    let waves : c.in_ok-waves.waves.items ≡ map new_wave (held_nets c.args.design.now c.args.clustering.now c.args.cluster) = c.in_ok-waves.ensures ∙ ap (map new_wave) (c.deref-7.ensures.value ∙ c.in_ok-nets.ensures) in
    let P : List Wave → Type 0 = λ ws. AllByRecursion (IsExactWaveIn c.args.design.now) ws in
    record {
      of = returns-clause-of c;
      waves = subst P (sym waves) (new_exact c.args.design.now (held_nets c.args.design.now c.args.clustering.now c.args.cluster) (held_below c.args.design.now c.args.clustering.now c.args.cluster));
    }
