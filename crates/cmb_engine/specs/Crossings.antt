-- Crossing flip-flops: those that shares tell one another, and how far ahead they are known.
use Rattle.std.specs.Prelude.{◌≡◌, ℕ, ◌+◌, ◌<◌, ◌≤◌, Bool, true, false, List, slice_index_or}
use Rattle.cmb_netlist.specs.Netlist.{driver_of}
use Rattle.cmb_design_model.specs.Design.{Design}
use Rattle.cmb_design_model.specs.Nets.{is_flop}
use Rattle.cmb_design_model.specs.Timing.{delay}
use Rattle.cmb_engine.specs.Rows.{arrives}
use Rattle.cmb_engine.specs.Windows.{Windows, end_of}

-- a net is a flip-flop, and marked as crossing
abbrev pub IsCrossing : Design → List Bool → ℕ → Type 0
IsCrossing design crossing net = (slice_index_or crossing net false ≡ true) × (is_flop (driver_of design.netlist net) ≡ true)

-- the ticks of [from, upto) lie in a flip-flop's lookahead: each sample that arrives there was taken before them
abbrev pub IsWithinLookahead : Design → ℕ → ℕ → ℕ → Type 0
IsWithinLookahead design from upto net =
    (tick : ℕ) → from ≤ tick → tick < upto → arrives design net tick ≡ true → tick < from + delay design net 1

-- each window lies in the lookahead of all crossing flip-flops
abbrev pub AreWithinLookahead : Design → List Bool → Windows → Type 0
AreWithinLookahead design crossing windows =
    (net clock : ℕ) → IsCrossing design crossing net → clock < windows.horizon → IsWithinLookahead design clock (end_of windows clock) net
