use Rattle.std.proofs.Common.{◌≡◌, ◌<◌, length, List, arith, sym, ◌∙◌, ap, subst}
use Rattle.std.specs.Prelude.{All}
use Rattle.cmb_wave.specs.Wave.{Wave}
use Rattle.cmb_core_cluster.specs.declared.directory.Reader.{Reader}
use Rattle.cmb_core_cluster.specs.Clusters.{slot_wave}
use Rattle.cmb_core_cluster.specs.Directory.{given_at, readers_from}
use Rattle.cmb_core_cluster.specs.Trims.{least_need}
use Rattle.cmb_core_cluster.proofs.TrimFacts.{least_clock, listed_below, listed_given, readers_at, readers_length}
use Rattle.cmb_core_cluster.proofs.cluster.Cluster.least_need_at.Goals as goal

pub index-requires : goal.index-requires
index-requires c =
    let i = c.self.inside in
    omega (arith, ap (λ s. length s.waves) c.self.view_is, c.requires.there, c.self.invariant.sound.paired, readers_length i.processes.items _ i.directory c.self.invariant.directory)

pub least_need_of-requires-clause-there : goal.least_need_of-requires-clause-there
least_need_of-requires-clause-there c =
    let i = c.self.inside in
    let place : c.args.slot < length i.processes.items = omega (arith, ap (λ s. length s.waves) c.self.view_is, c.requires.there, c.self.invariant.sound.paired) in
    let given = ap (λ s. given_at s.processes c.args.slot) c.self.view_is ∙ c.requires.given in
    let list = c.as_slice-readers.ensures.value ∙ readers_at i.processes.items _ i.directory c.args.slot c.index.result.now c.self.invariant.directory place c.index.ensures in
    let P : List Reader → Type 0 = λ rs. All (λ r. r.slot < length i.processes.items) rs in
    rw c.deref.ensures.value (subst P (sym list) (listed_below i.processes.items c.args.slot given))

least : (c : goal.After-least_need_of) → c.least_need_of.result ≡ least_need c.args.self.now.processes c.args.self.now.waves (readers_from c.args.slot 0 c.args.self.now.processes) (slot_wave c.args.self.now c.args.slot).clock
least c =
    let i = c.self.inside in
    let place : c.args.slot < length i.processes.items = omega (arith, ap (λ s. length s.waves) c.self.view_is, c.requires.there, c.self.invariant.sound.paired) in
    let given = ap (λ s. given_at s.processes c.args.slot) c.self.view_is ∙ c.requires.given in
    let list : c.as_slice-readers.result.now ≡ readers_from c.args.slot 0 i.processes.items =
    c.as_slice-readers.ensures.value ∙ readers_at i.processes.items _ i.directory c.args.slot c.index.result.now c.self.invariant.directory place c.index.ensures ∙ listed_given i.processes.items c.args.slot given
    in
    let most : c.clock-most.result ≡ (slot_wave c.args.self.now c.args.slot).clock = c.clock-most.ensures ∙ ap (λ (w : Wave). w.clock) c.wave.ensures.wave in
    rw (c.deref.ensures.value, c.deref-2.ensures.value, list, most) at c.least_need_of.ensures
    ∙ ap (λ s. least_need s.processes s.waves (readers_from c.args.slot 0 s.processes) (slot_wave c.args.self.now c.args.slot).clock) c.self.view_is

pub returns-clause-least : goal.returns-clause-least
returns-clause-least c = least c

pub returns-clause-known : goal.returns-clause-known
returns-clause-known c = omega (arith, least c, least_clock c.args.self.now.processes c.args.self.now.waves (readers_from c.args.slot 0 c.args.self.now.processes) (slot_wave c.args.self.now c.args.slot).clock)
