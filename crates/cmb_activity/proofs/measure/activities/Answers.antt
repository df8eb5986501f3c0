use Rattle.std.proofs.Common.{◌≡◌, List, subst, sym, ◌∙◌, arith}
use Rattle.cmb_design_model.specs.Exact.{nets_of}
use Rattle.cmb_design_model.specs.Value.{value}
use Rattle.cmb_activity.specs.Inner.Tallies.{AreTallies}
use Rattle.cmb_activity.specs.declared.tally.Tally.{Tally}
use Rattle.cmb_activity.proofs.WindowFacts.{written_back}
use Rattle.cmb_activity.proofs.measure.activities.Goals as goal

pub all_at-requires : goal.all_at-requires
all_at-requires c =
    subst (λ (list : List Tally). AreTallies (value c.args.design.now) (nets_of c.args.design.now) c.args.design.now.horizon c.args.design.now.horizon list) (sym back) counted
  where
    counted : AreTallies (value c.args.design.now) (nets_of c.args.design.now) c.args.design.now.horizon c.args.design.now.horizon c.count_all.new.tallies
    counted = c.in_ok-count_all.ensures

    back : c.deref.result.now ≡ c.count_all.new.tallies
    back =
        c.deref.ensures.value
        ∙ written_back c.in_ok-tallies.tallies.items c.count_all.new.tallies c.in_ok-tallies.tallies.len (omega (arith, counted.count, c.in_ok-tallies.ensures.count)) (omega (arith, c.in_ok-tallies.tallies.ok))
