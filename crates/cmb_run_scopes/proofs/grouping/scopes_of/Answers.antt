use Rattle.std.proofs.Common.{◌∙◌, ap, map, sym}
use Rattle.cmb_run_scopes.proofs.GroupFacts.{grouped-names, put-more, put-same}
use Rattle.cmb_run_scopes.specs.Inner.Grouped.{first}
use Rattle.std.proofs.Common.{take}
use Rattle.cmb_run_scopes.proofs.grouping.scopes_of.Goals.{then-len-level+in_ok-put, else-len-level}
use Rattle.cmb_run_scopes.proofs.grouping.scopes_of.Goals as goal

pub put-requires : goal.put-requires
put-requires c =
    ap (map first) c.loop-place.invariant.scopes ∙ grouped-names c.args.paths.now c.args.level (take c.loop-place.place-index c.args.places.now) ∙ sym c.loop-place.invariant.names

pub loop-place-preserved : goal.loop-place-preserved
loop-place-preserved c =
    let paths = c.args.paths.now in
    let places = c.args.places.now in
    let i = c.loop-place.place-index in
    let known = c.requires.places i 0 c.loop-place-test.true in
    elim c.if-len-level.branch [
      | then-len-level+in_ok-put w ↦
          let h = put-more paths c.args.level places i c.len.result c.index-paths-place.result w.part.result.now c.loop-place.seen.keys w.put.new.seen.keys c.loop-place.found.items
          w.put.new.scopes.items c.loop-place-test.true known c.index-paths-place.is c.len.ensures w.if-len-level.true w.part.ensures c.loop-place.invariant.names
          c.loop-place.invariant.scopes w.in_ok-put.ensures.seen w.in_ok-put.ensures.scopes in
          rw (w.seen-is, w.found-is) (record { names = h.0; scopes = h.1 })
      | else-len-level w ↦
          let h = put-same paths c.args.level places i c.len.result c.index-paths-place.result c.loop-place.seen.keys c.loop-place.found.items c.loop-place-test.true known
          c.index-paths-place.is c.len.ensures w.if-len-level.false c.loop-place.invariant.names c.loop-place.invariant.scopes in
          rw (w.seen-is, w.found-is) (record { names = h.0; scopes = h.1 })
    ]
