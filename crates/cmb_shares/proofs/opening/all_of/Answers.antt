use Rattle.std.proofs.Common.{◌≡◌, ◌++◌, Ok, map, subst, sym}
use Rattle.cmb_shares.proofs.OpeningFacts.{ok-more}
use Rattle.cmb_shares.proofs.opening.all_of.Goals as goal

pub loop-one-init : goal.loop-one-init
loop-one-init g c =
    subst (λ all. c.args.made.items ≡ map Ok all ++ c.into_iter-one-iterator.result.rest.items) (sym c.new-all.ensures.items) (sym c.into_iter-one-iterator.ensures.into_iter_gives.0)

pub loop-one-preserved : goal.loop-one-preserved
loop-one-preserved g c =
    subst (λ all. c.args.made.items ≡ map Ok all ++ c.next.new.self.rest.items) (sym c.in_ok-push.ensures.items)
    (ok-more c.args.made.items c.loop-one.one-iterator.rest.items c.next.new.self.rest.items c.loop-one.all.items c.in-Some.one c.in_ok-one.field-0 c.loop-one.invariant c.in-Some.ensures.steps.0 c.in_ok-one.was)
