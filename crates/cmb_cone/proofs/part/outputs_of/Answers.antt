use Rattle.std.proofs.Common.{ℕ, List, HashSet, BuildHasherDefault, FoldHasher, ap, sym, subst, ◌∙◌}
use Rattle.std.specs.Prelude.{nat_eq}
use Rattle.std.specs.List.{IsDistinct}
use Rattle.cmb_cone.proofs.PartFacts.{output_known, output_yes, output_no}
use Rattle.cmb_cone.proofs.part.outputs_of.Goals as goal
use Rattle.cmb_cone.proofs.part.outputs_of.Goals.{then-is_kept+in_ok-insert, else-is_kept}

pub is_kept-requires : goal.is_kept-requires
is_kept-requires c = output_known c.args.netlist.now c.args.kept.now.places.now c.outputs-all.result.now c.loop-net.net-index c.requires.sound c.requires.long c.outputs-all.ensures c.loop-net-test.true

pub bounds-kept-net : goal.bounds-kept-net
bounds-kept-net c = output_known c.args.netlist.now c.args.kept.now.places.now c.outputs-all.result.now c.loop-net.net-index c.requires.sound c.requires.long c.outputs-all.ensures c.loop-net-test.true

abbrev Set : Type 0
Set = HashSet ℕ (BuildHasherDefault FoldHasher)

pub loop-net-preserved : goal.loop-net-preserved
loop-net-preserved c =
    let Different : List ℕ → Type 0 = λ xs. IsDistinct nat_eq xs in
    let keys : Set → List ℕ = λ s. s.keys in
    let different : IsDistinct nat_eq c.outputs-all.result.now = subst Different (sym c.outputs-all.ensures) c.requires.sound.different_outputs in
    elim c.if-is_kept.branch [
      | then-is_kept+in_ok-insert w ↦ record {
        kept = output_yes c.args.kept.now.nets.now c.args.kept.now.places.now c.outputs-all.result.now c.loop-net.outputs.keys _ c.loop-net.net-index c.args.kept.now.placed different c.loop-net-test.true
            (sym c.is_kept.ensures ∙ w.if-is_kept.true) c.loop-net.invariant.kept (ap keys w.outputs-is ∙ w.in_ok-insert.ensures.keys);
        distinct = subst Different (sym (ap keys w.outputs-is)) w.in_ok-insert.ensures.unique;
      }
      | else-is_kept w ↦ record {
        kept = output_no c.args.kept.now.nets.now c.args.kept.now.places.now c.outputs-all.result.now c.loop-net.outputs.keys _ c.loop-net.net-index c.loop-net-test.true
            (sym c.is_kept.ensures ∙ w.if-is_kept.false) c.loop-net.invariant.kept (ap keys w.outputs-is);
        distinct = subst Different (sym (ap keys w.outputs-is)) c.loop-net.invariant.distinct;
      }
    ]
