use Rattle.std.proofs.Common.{◌∙◌, Vec, Global, ap, arith, length}
use Rattle.cmb_run_text.proofs.LineFacts.{rest_none}
use Rattle.cmb_words.specs.declared.changed.Changed.{Changed}
use Rattle.cmb_words.proofs.Rising.{rises_at}
use Rattle.cmb_dump.specs.Inner.Picks.{picked_of}
use Rattle.cmb_dump.proofs.PickFacts.{picked_none, picked_one, picked_other}
use Rattle.cmb_dump.proofs.pick.pick.Goals as goal
use Rattle.cmb_dump.proofs.pick.pick.Goals.{then-place-count+in_ok-push, else-place-count}

pub bounds-places-one : goal.bounds-places-one
bounds-places-one c =
    omega (arith, ap (λ (x : Changed). x.net) c.one-item.is, rises_at 0 (length c.args.places.now) c.args.changed.now c.loop-one.one-index c.one-item.result c.requires (omega arith))

pub loop-one-preserved : goal.loop-one-preserved
loop-one-preserved c =
    elim c.if-place-count.branch [
      | then-place-count+in_ok-push w ↦
          picked_one c.args.places.now c.args.count c.args.changed.now c.loop-one.one-index c.one-item.result c.loop-one.picked.items _ _ c.loop-one-test.true c.one-item.is w.if-place-count.true
          (ap (λ (v : Vec Changed Global). v.items) w.picked-is ∙ w.in_ok-push.ensures.items) c.loop-one.invariant
      | else-place-count w ↦
          picked_other c.args.places.now c.args.count c.args.changed.now c.loop-one.one-index c.one-item.result c.loop-one.picked.items _ _ c.loop-one-test.true c.one-item.is w.if-place-count.false
          (ap (λ (v : Vec Changed Global). v.items) w.picked-is) c.loop-one.invariant
    ]

pub returns : goal.returns
returns c = rest_none (picked_of c.args.places.now c.args.count) c.args.changed.now c.loop-one.one-index _ _ (omega arith) (picked_none c.args.places.now c.args.count) c.loop-one.invariant
