use Rattle.std.proofs.Common.{◌≡◌}
use Rattle.std.specs.BTreeSet.{btree_set_len}
use Rattle.cmb_design_model.specs.Settings.{any_below}
use Rattle.cmb_design_model.specs.declared.rows.Clock.{Clock}
use Rattle.cmb_count.specs.Below.{count_below}
use Rattle.cmb_count.specs.Clocks.{is_clocked_by, is_first_clocked}
use Rattle.cmb_count.specs.Inner.ClockSets.{has_clock}
use Rattle.cmb_count.proofs.clocks.count_clocks.Given as goal

abbrev pub invariant-loop-net : goal.invariant-loop-net
invariant-loop-net l = record {
  count : btree_set_len l.clocks ≡ count_below (is_first_clocked l.design) l.net;
  found : (clock : Clock) → has_clock l.clocks clock ≡ any_below (is_clocked_by l.design clock) l.net;
}
