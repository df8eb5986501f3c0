use Rattle.cmb_core_protocol.proofs.Machine.{reachable-within, reachable-sound, play-goes}
use Rattle.cmb_core_protocol.proofs.laws.clocks_rise.Goals as goal

pub returns : goal.returns
returns c = record {
  within = reachable-within;
  rises = λ design clustering clocks event reachable. (play-goes design clustering clocks (reachable-sound design clustering clocks reachable) event).1;
}
