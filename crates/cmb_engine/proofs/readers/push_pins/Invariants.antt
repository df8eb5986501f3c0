use Rattle.std.proofs.Common.{◌≡◌, ◌==◌, ◌<◌, ℕ, true, length, map, take}
use Rattle.std.specs.List.{list_any}
use Rattle.cmb_engine.specs.Inner.Cells.{AreBelow, IsListed}
use Rattle.cmb_engine.proofs.readers.push_pins.Given as goal

abbrev pub invariant-loop-pin : goal.invariant-loop-pin
invariant-loop-pin l = record {
  len : length l.readers ≡ length l.initial.readers;
  within : (bound : ℕ) → l.net < bound → AreBelow bound (map (λ list. list.items) l.initial.readers) → AreBelow bound (map (λ list. list.items) l.readers);
  kept : (place number : ℕ) → IsListed (map (λ list. list.items) l.initial.readers) place number → IsListed (map (λ list. list.items) l.readers) place number;
  listed : (place : ℕ) → list_any (λ pin. pin.net == place) (take l.pin-index l.pins) ≡ true → IsListed (map (λ list. list.items) l.readers) place l.net;
}
