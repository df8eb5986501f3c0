use Rattle.cmb_core_protocol.proofs.Machine.{reachable-sound, posts-exact, promises-right}
use Rattle.cmb_core_protocol.proofs.laws.sent_is_exact.Goals as goal

pub returns : goal.returns
returns c = record {
  posts = λ design clustering clocks reachable. posts-exact design clustering clocks (reachable-sound design clustering clocks reachable);
  promises = λ design clustering clocks reachable. promises-right design clustering clocks (reachable-sound design clustering clocks reachable);
}
