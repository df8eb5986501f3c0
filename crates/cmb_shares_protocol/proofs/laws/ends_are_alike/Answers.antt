use Rattle.cmb_shares_protocol.proofs.Progress.{complete-alike, end-complete}
use Rattle.cmb_shares_protocol.proofs.Sound.{reachable-sound}
use Rattle.cmb_shares_protocol.proofs.laws.ends_are_alike.Goals as goal

pub returns : goal.returns
returns c = record {
  complete = λ network processes is reachable. end-complete network is processes (reachable-sound network is processes reachable);
  alike = λ network one other is reachable reachable' end end'.
      let sound = reachable-sound network is one reachable in
      let sound' = reachable-sound network is other reachable' in
      complete-alike network is one other sound sound' (end-complete network is one sound end) (end-complete network is other sound' end');
}
