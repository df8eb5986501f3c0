use Rattle.std.proofs.Common.{◌≡◌, ℕ, ◌<◌, true, false, length, get_or}
use Rattle.std.specs.Prelude.{Contains}
use Rattle.cmb_netlist.specs.Netlist.{driver_of, pins_of}
use Rattle.cmb_engine.specs.Shares.{IsDriven}
use Rattle.cmb_shares.proofs.feeders.feeders_of.Given as goal

abbrev pub invariant-loop-reader : goal.invariant-loop-reader
invariant-loop-reader l = record {
  len : length l.feeders.items ≡ l.shares;
  marked : (k : ℕ) → k < l.reader → IsDriven l.driven k → (net : ℕ) → Contains (pins_of (driver_of l.netlist k)) net → get_or l.driven net false ≡ false
      → get_or l.feeders.items (get_or l.owners net 0) false ≡ true;
}
