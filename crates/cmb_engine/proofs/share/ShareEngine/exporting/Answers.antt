use Rattle.std.proofs.Common.{◌≡◌, ℕ, List, false, true, get_or, length, sym, subst}
use Rattle.std.specs.Prelude.{◌↔◌, All, Contains}
use Rattle.cmb_engine.specs.Crossings.{IsCrossing}
use Rattle.cmb_engine.specs.Inner.Circuits.{IsGroup}
use Rattle.cmb_engine.specs.Inner.Exports.{slots_of}
use Rattle.cmb_engine.specs.Shares.{IsDriven, ShareEngine}
use Rattle.cmb_engine.specs.declared.group.Group.{Group}
use Rattle.cmb_engine.proofs.ExportFacts.{exports-exact}
use Rattle.cmb_engine.proofs.GroupFacts.{group-pairs}
use Rattle.cmb_engine.proofs.share.ShareEngine.exporting.Goals as goal

pub invariant_of-result : goal.invariant_of-result
invariant_of-result c = (
  c.self.invariant.0,
  c.self.invariant.1,
  c.self.invariant.2,
  subst (λ (flops : List Group). All (IsGroup c.self.inside.circuit.wiring.cells) flops → All (IsGroup c.self.inside.circuit.wiring.cells) c.in-Ok.exports.items) c.as_slice.ensures.value
      (c.in-Ok.ensures.groups c.self.inside.circuit.wiring.cells) c.self.invariant.0.wires.flip_flops.each,
)

pub returns-in-Ok-clause-exports : goal.returns-in-Ok-clause-exports
returns-in-Ok-clause-exports c =
    subst (λ (e : ShareEngine). (net : ℕ) → Contains (slots_of c.in-Ok.exports.items) net ↔ (IsDriven e.driven net × IsCrossing e.design c.args.crossing.now net)) c.self.view_is
    (exports-exact c.self.inside.design.now c.self.inside.circuit c.self.invariant.0 c.args.crossing.now c.in-Ok.exports.items c.self.invariant.2
    (subst (λ (flops : List Group). (slot : ℕ) → Contains (slots_of c.in-Ok.exports.items) slot ↔ (Contains (slots_of flops) slot × (get_or c.args.crossing.now slot false ≡ true))) c.as_slice.ensures.value
    c.in-Ok.ensures.exact))

pub exports_of-requires : goal.exports_of-requires
exports_of-requires c =
    record {
      pairs = subst (All (λ group. length group.sources.items ≡ length group.flops.items)) (sym c.as_slice.ensures.value)
          (λ k d small. group-pairs c.self.inside.circuit.wiring.cells (get_or c.self.inside.circuit.wiring.flops.items k d) (c.self.invariant.0.wires.flip_flops.each k d small));
    }
