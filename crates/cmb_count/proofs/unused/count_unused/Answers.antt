use Rattle.std.proofs.Common.{◌∙◌, ap, not, false, get_or, length}
use Rattle.cmb_count.specs.Below.{count_below}
use Rattle.cmb_count.specs.Unused.{is_unused}
use Rattle.cmb_count.proofs.BelowFacts.{count_below-same}
use Rattle.cmb_count.proofs.unused.count_unused.Goals as goal

pub returns : goal.returns
returns c =
    c.count_unset.ensures ∙ ap (count_below (λ net. not (get_or c.mark_used.new.marks net false))) c.mark_used.ensures.long
    ∙ count_below-same _ (is_unused c.args.netlist.now) (length c.args.netlist.now.names) (λ k h. ap not (c.mark_used.ensures.marked k h))
