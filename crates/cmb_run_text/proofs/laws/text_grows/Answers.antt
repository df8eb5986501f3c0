use Rattle.std.proofs.Common.{add-one}
use Rattle.cmb_run_text.proofs.PartFacts.{part_text-onward}
use Rattle.cmb_run_text.proofs.Texts.{part_text-agree, part_text-grows, ticks_text-still}
use Rattle.cmb_run_text.proofs.laws.text_grows.Goals as goal

pub returns : goal.returns
returns c = record {
  depends = part_text-agree;
  begins = part_text-grows;
  onward = λ names horizon levels others from to rest order within same. part_text-onward names horizon levels others from to rest order within (λ net tick n a b. same net tick n (rw add-one a) b);
  still = λ nets levels from more late same. ticks_text-still nets levels from more late (λ net tick n a b. rw (← add-one) (same net tick n (rw add-one a) (rw add-one b)));
}
