use Rattle.std.proofs.Common.{◌∙◌, ap, arith, rules, get_or, false, List, ℕ, ◌||◌}
use Rattle.std.proofs.lemmas.List.{take_all}
use Rattle.cmb_count.specs.Unused.{is_among}
use Rattle.cmb_count.proofs.MarkFacts.{marked_more}
use Rattle.cmb_count.proofs.unused.mark_all.Goals as goal

pub loop-net-preserved : goal.loop-net-preserved
loop-net-preserved c = record {
  long = search rules;
  marked = λ net within. marked_more c.loop-net.marks (get_or c.args.marks.now net false) c.args.nets.now c.loop-net.net-index net c.loop-net-test.true
      (let low = c.requires c.loop-net.net-index 0 c.loop-net-test.true in omega (arith, low, c.loop-net.invariant.long)) (c.loop-net.invariant.marked net within);
}

pub returns-clause-marked : goal.returns-clause-marked
returns-clause-marked c = λ net within.
    c.loop-net.invariant.marked net within ∙ ap (λ (l : List ℕ). get_or c.args.marks.now net false || is_among l net) (take_all c.loop-net.net-index c.args.nets.now c.loop-net-test.false)
