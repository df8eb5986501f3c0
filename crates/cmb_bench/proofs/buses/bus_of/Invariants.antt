use Rattle.std.proofs.Common.{◌≡◌, take, drop}
use Rattle.cmb_bench.specs.Buses.{behind_bytes, bus_of}
use Rattle.cmb_bench.proofs.buses.bus_of.Given as goal

abbrev pub invariant-loop-place : goal.invariant-loop-place
invariant-loop-place l = behind_bytes (take l.place l.name) (bus_of (drop l.place l.name)) ≡ bus_of l.name
