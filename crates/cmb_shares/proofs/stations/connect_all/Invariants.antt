use Rattle.std.proofs.Common.{◌≡◌, length}
use Rattle.cmb_shares.specs.Inner.Opened.{AreCovered, AreStations}
use Rattle.cmb_shares.specs.Inner.Processes.{AreJoined}
use Rattle.cmb_shares.proofs.stations.connect_all.Given as goal

abbrev pub invariant-loop-reader : goal.invariant-loop-reader
invariant-loop-reader g l = record {
  len : length l.stations ≡ length l.fn.stations;
  stations : AreStations l.stations;
  joined : AreJoined (length g.T.ShareRun.run.driven) l.stations;
  covered : AreCovered g.T.ShareRun.run l.reader l.stations;
}
