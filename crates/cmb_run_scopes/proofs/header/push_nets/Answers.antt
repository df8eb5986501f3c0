use Rattle.std.proofs.Common.{◌∙◌, ap, sym, ◌++◌, refl}
use Rattle.std.proofs.lemmas.List.{append-nil}
use Rattle.cmb_run_scopes.proofs.HeaderFacts.{here-test, other-test, own-more, own-none, own-past, part-is}
use Rattle.cmb_run_scopes.proofs.header.push_nets.Goals.{then-len-level+in_ok-push_net, else-len-level}
use Rattle.cmb_run_scopes.proofs.header.push_nets.Goals as goal

pub loop-place-preserved : goal.loop-place-preserved
loop-place-preserved c =
    let paths = c.args.paths.now in
    let level = c.args.level in
    let places = c.args.places.now in
    let i = c.loop-place.place-index in
    let known = c.requires.places i 0 c.loop-place-test.true in
    let path = c.index-paths-place.result in
    elim c.if-len-level.branch [
      | then-len-level+in_ok-push_net w ↦
          rw w.out-is
          (own-more paths level places i _ w.part.result.now c.loop-place.out.items w.push_net.new.out.items _ c.loop-place-test.true refl
          (here-test paths level _ c.len.result path known c.index-paths-place.is c.len.ensures w.if-len-level.true) (part-is paths level _ path w.part.result.now known c.index-paths-place.is w.part.ensures)
          w.in_ok-push_net.ensures c.loop-place.invariant)
      | else-len-level w ↦
          rw w.out-is
          (own-past paths level places i _ c.loop-place.out.items _ c.loop-place-test.true refl
          (other-test paths level _ c.len.result path known c.index-paths-place.is c.len.ensures w.if-len-level.false) c.loop-place.invariant)
    ]

pub returns : goal.returns
returns c =
    let none = own-none c.args.paths.now c.args.level c.args.places.now c.loop-place.place-index c.loop-place-test.false in
    sym (append-nil c.loop-place.out.items) ∙ ap (λ t. c.loop-place.out.items ++ t) (sym none) ∙ c.loop-place.invariant
