use Rattle.std.proofs.Common.{◌≡◌, length, take}
use Rattle.cmb_shares.specs.Inner.Stations.{AreHeardOf, senders_of}
use Rattle.cmb_shares.proofs.PlaceFacts.{AreWritten}
use Rattle.cmb_shares.proofs.station.receive_all.Given as goal

abbrev pub invariant-loop-place : goal.invariant-loop-place
invariant-loop-place g l = record {
  len : length l.inlets ≡ length l.fn.inlets;
  at : AreWritten (λ k e. (e.reader ≡ l.simulator.number) × (e.upto ≡ l.upto)) (λ k e. (e.reader ≡ l.simulator.number) × (e.upto ≡ l.simulator.engine.clock)) l.place l.inlets;
  senders : senders_of l.inlets ≡ senders_of l.fn.inlets;
  heard : AreHeardOf g.T.ShareRun.run l.simulator.number l.simulator.engine.clock l.upto (take l.place (senders_of l.fn.inlets)) l.given.items;
}
