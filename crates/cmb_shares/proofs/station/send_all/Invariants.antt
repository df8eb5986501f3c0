use Rattle.std.proofs.Common.{◌≡◌, length}
use Rattle.cmb_shares.specs.Inner.Stations.{readers_of}
use Rattle.cmb_shares.proofs.PlaceFacts.{AreWritten}
use Rattle.cmb_shares.proofs.station.send_all.Given as goal

abbrev pub invariant-loop-place : goal.invariant-loop-place
invariant-loop-place g l = record {
  len : length l.feeds ≡ length l.fn.feeds;
  readers : readers_of l.feeds ≡ readers_of l.fn.feeds;
  at : AreWritten (λ k e. (e.sender ≡ l.simulator.number) × (e.upto ≡ l.upto)) (λ k e. (e.sender ≡ l.simulator.number) × (e.upto ≡ l.simulator.engine.clock)) l.place l.feeds;
}
