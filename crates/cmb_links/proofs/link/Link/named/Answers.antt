use Rattle.cmb_links.proofs.Links.{forks}
use Rattle.cmb_links.proofs.link.Link.named.Goals as goal

pub another-second-requires-clause-rule : goal.another-second-requires-clause-rule
another-second-requires-clause-rule g c = forks _ _ _ _ c.in_ok-queue.ensures.3
