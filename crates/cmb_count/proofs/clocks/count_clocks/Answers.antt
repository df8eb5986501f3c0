use Rattle.std.proofs.Common.{◌≡◌, ◌∙◌, ap, sym}
use Rattle.cmb_netlist.specs.Netlist.{Netlist, driver_of}
use Rattle.cmb_design_model.specs.Nets.{is_flop}
use Rattle.cmb_design_model.specs.Timing.{clock_of}
use Rattle.std.specs.List.{list_any}
use Rattle.std.specs.BTreeMap.{is_at}
use Rattle.cmb_count.specs.Clocks.{is_first_clocked}
use Rattle.cmb_count.specs.Inner.ClockSets.{pair_cmp}
use Rattle.cmb_count.proofs.ClockFacts.{met, met_count, none_before, passed, passed_count}
use Rattle.cmb_count.proofs.BelowFacts.{count_below_none}
use Rattle.cmb_count.proofs.clocks.count_clocks.Goals.{then-has_kind+in_ok-note_clock, else-has_kind}
use Rattle.cmb_count.proofs.clocks.count_clocks.Goals as goal

pub loop-net-init : goal.loop-net-init
loop-net-init c = record {
  count = c.new-clocks.ensures.len ∙ sym (count_below_none (is_first_clocked c.args.design.now));
  found = λ clock. ap (list_any (is_at (pair_cmp (clock.first, clock.period)))) c.new-clocks.ensures.empty ∙ none_before c.args.design.now clock;
}

pub loop-net-preserved : goal.loop-net-preserved
loop-net-preserved c =
    let told : c.has_kind.result ≡ is_flop (driver_of c.args.design.now.netlist c.loop-net.net)
    = c.has_kind.ensures ∙ ap is_flop c.driver.ensures ∙ ap (λ (netlist : Netlist). is_flop (driver_of netlist c.loop-net.net)) c.netlist-in-loop-net.ensures in
    elim c.if-has_kind.branch [
      | then-has_kind+in_ok-note_clock w ↦ record {
        count = rw (w.clocks-is)
            (w.in_ok-note_clock.ensures.long
            ∙ rw (w.clock.ensures.value) (met_count c.args.design.now c.loop-net.net _ _ (sym told ∙ w.if-has_kind.true) (c.loop-net.invariant.found (clock_of c.args.design.now c.loop-net.net)) c.loop-net.invariant.count));
        found = λ clock. rw (w.clocks-is)
            (w.in_ok-note_clock.ensures.found clock
            ∙ rw (w.clock.ensures.value) (met c.args.design.now c.loop-net.net clock _ (sym told ∙ w.if-has_kind.true) (c.loop-net.invariant.found clock)));
      }
      | else-has_kind w ↦ record {
        count = rw (w.clocks-is) (passed_count c.args.design.now c.loop-net.net _ (sym told ∙ w.if-has_kind.false) c.loop-net.invariant.count);
        found = λ clock. rw (w.clocks-is) (passed c.args.design.now c.loop-net.net clock _ (sym told ∙ w.if-has_kind.false) (c.loop-net.invariant.found clock));
      }
    ]
