use Rattle.std.proofs.Common.{◌∙◌, ap}
use Rattle.std.specs.BTreeMap.{is_at}
use Rattle.std.specs.List.{list_any}
use Rattle.cmb_count.specs.Clocks.{is_first_clocked}
use Rattle.cmb_count.specs.Inner.ClockSets.{pair_cmp}
use Rattle.cmb_count.proofs.ClockFacts.{none_before}
use Rattle.cmb_count.proofs.FirstFacts.{first_none, first_step}
use Rattle.cmb_count.proofs.clock_paths.first_flops.Goals as goal

pub loop-net-init : goal.loop-net-init
loop-net-init c = record {
  nets = c.new-nets.ensures.items ∙ first_none c.args.most (is_first_clocked c.args.design.now);
  before = λ clock. ap (list_any (is_at (pair_cmp (clock.first, clock.period)))) c.new-clocks.ensures.empty ∙ none_before c.args.design.now clock;
}

pub loop-net-preserved : goal.loop-net-preserved
loop-net-preserved c = record {
  nets = first_step c.args.most (is_first_clocked c.args.design.now) c.loop-net.net c.loop-net.nets.items _ c.in_ok-first.first c.loop-net.invariant.nets c.in_ok-first.ensures.first c.in_ok-push_first.ensures;
  before = c.in_ok-first.ensures.before;
}
