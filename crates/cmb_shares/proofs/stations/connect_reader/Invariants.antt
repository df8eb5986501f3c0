use Rattle.std.proofs.Common.{◌≡◌, ◌≢◌, ℕ, ◌<◌, true, false, length, get_or}
use Rattle.std.specs.Prelude.{Contains}
use Rattle.cmb_shares.specs.Inner.Opened.{AreStations}
use Rattle.cmb_shares.specs.Inner.Processes.{AreJoined}
use Rattle.cmb_shares.specs.Inner.Stations.{Standing}
use Rattle.cmb_shares.proofs.stations.connect_reader.Given as goal

abbrev pub invariant-loop-sender : goal.invariant-loop-sender
invariant-loop-sender g l = record {
  len : length l.stations ≡ length l.fn.stations;
  stations : AreStations l.stations;
  joined : AreJoined (length g.T.ShareRun.run.driven) l.fn.stations → AreJoined (length g.T.ShareRun.run.driven) l.stations;
  others : (k : ℕ) (d : Standing) → k < length l.fn.stations → k ≢ l.reader → (get_or l.stations k d).senders ≡ (get_or l.fn.stations k d).senders;
  heard : (s : ℕ) (d : Standing) → s < l.sender → get_or l.feeders s false ≡ true → Contains (get_or l.stations l.reader d).senders s;
}
