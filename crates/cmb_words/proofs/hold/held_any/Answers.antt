use Rattle.std.proofs.Common.{◌≤◌, ◌∙◌, ⊎_elim, arith}
use Rattle.std.proofs.lemmas.Bool.{cases_lt}
use Rattle.cmb_words.specs.Word.{level_at_place}
use Rattle.cmb_words.proofs.SpanFacts.{every-none, every-some}
use Rattle.cmb_words.proofs.hold.held_any.Goals as goal

pub returns-then-arrival-lt64 : goal.returns-then-arrival-lt64
returns-then-arrival-lt64 c = record {
  below = λ i low. c.spliced.ensures.below i (omega (arith, c.requires.later, low)) ∙ c.repeated_from-before.ensures.below i low;
  from = λ i from small.
      ⊎_elim
      (λ below.
      every-none (level_at_place c.args.own) (level_at_place c.spliced.result) (level_at_place c.args.input) c.args.delay c.args.arrival c.args.period
      c.args.from i c.requires.least
      (λ j low. c.spliced.ensures.below j (omega (arith, c.requires.later, low)) ∙ c.repeated_from-before.ensures.below j low)
      (λ j above under fits. c.spliced.ensures.below j under ∙ c.repeated_from-before.ensures.from j above fits)
      from below small)
      (λ above.
      every-some (level_at_place c.carried.result) (level_at_place c.delayed.result) (level_at_place c.spliced.result) (level_at_place c.args.input)
      c.args.delay c.args.arrival c.args.period i c.requires.some c.carried.ensures c.spliced.ensures.from
      (c.delayed.ensures i (let h : c.args.delay ≤ i = omega (arith, c.requires.near, from) in h) small) above small)
      (cases_lt i c.args.arrival);
}

pub returns-else-arrival-lt64 : goal.returns-else-arrival-lt64
returns-else-arrival-lt64 c = record {
  below = λ i low. c.repeated_from-before.ensures.below i low;
  from = λ i from small.
      every-none (level_at_place c.args.own) (level_at_place c.repeated_from-before.result) (level_at_place c.args.input) c.args.delay c.args.arrival
      c.args.period c.args.from i c.requires.least c.repeated_from-before.ensures.below (λ j above under fits. c.repeated_from-before.ensures.from j above fits)
      from (omega (arith, c.if-arrival-lt64.false, small)) small;
}
