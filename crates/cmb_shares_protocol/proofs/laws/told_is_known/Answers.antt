use Rattle.std.proofs.Common.{arith}
use Rattle.cmb_shares_protocol.proofs.Sound.{reachable-sound, sound-known}
use Rattle.cmb_shares_protocol.proofs.laws.told_is_known.Goals as goal

pub returns : goal.returns
returns c = record {
  channels = λ network processes sender reader is reachable leads. sound-known network processes sender reader ((reachable-sound network is processes reachable).channels sender reader leads);
  advance = λ network processes sender reader is reachable leads can.
      omega (arith, can.0.3 sender leads, ((reachable-sound network is processes reachable).channels sender reader leads).taken);
}
