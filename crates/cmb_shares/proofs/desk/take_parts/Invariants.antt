use Rattle.std.proofs.Common.{◌≡◌, ℕ, ◌<◌, length, get_or, map}
use Rattle.cmb_shares.specs.declared.message.Envelope.{Envelope}
use Rattle.cmb_shares.proofs.PlaceFacts.{AreWritten}
use Rattle.cmb_shares.proofs.desk.take_parts.Given as goal

abbrev pub invariant-loop-place : goal.invariant-loop-place
invariant-loop-place g l = record {
  len : length l.sources ≡ length l.fn.sources;
  at : AreWritten (λ k e. (e.sender ≡ k) × (e.reader ≡ length g.T.ShareRun.run.driven) × (e.upto ≡ l.upto)) (λ k e. (e.sender ≡ k) × (e.reader ≡ length g.T.ShareRun.run.driven) × (e.upto ≡ l.from)) l.place l.sources;
  count : length l.parts.items ≡ l.place;
  each : (k : ℕ) (d : Envelope) → k < l.place → get_or (map (λ m. m.envelope) l.parts.items) k d ≡ record { sender = k; reader = length g.T.ShareRun.run.driven; from = l.from; upto = l.upto };
}
