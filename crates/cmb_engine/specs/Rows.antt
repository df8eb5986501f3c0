-- The row of a net at a tick: what its driver gives there, told by the levels at earlier ticks.
-- It is the value rule, but that a flip-flop holds: where no sample arrives it has its own level of the tick before.
use Rattle.std.specs.Prelude.{◌≡◌, ℕ, zero, suc, ◌+◌, ◌-◌, ◌%◌, ◌<◌, Bool, ◌&&◌, ◌==◌, nat_le, IsTrue, length, slice_index, if◌then◌else◌}
use Rattle.cmb_wave.specs.declared.level.Level.{Level}
use Rattle.cmb_netlist.specs.declared.netlist.Driver.{Driver}
use Rattle.cmb_netlist.specs.declared.netlist.Driver.TheVariants.{Input, Gate, Flop}
use Rattle.cmb_design_model.specs.declared.rows.Clock.{Clock}
use Rattle.cmb_design_model.specs.Design.{Design}
use Rattle.cmb_design_model.specs.Gate.{gate}
use Rattle.cmb_design_model.specs.Timing.{clock_of, delay, initial_level, stimulus}
use Rattle.cmb_design_model.specs.Value.{pin_levels}

-- whether this tick is so many ticks after a sample tick
abbrev pub arrives_by : Clock → ℕ → ℕ → Bool
arrives_by clock ticks tick =
    nat_le (clock.first + ticks) tick && (tick - (clock.first + ticks)) % clock.period == 0

-- whether a sample of a flip-flop arrives at this tick, its delay after it was taken
abbrev pub arrives : Design → ℕ → ℕ → Bool
arrives design net tick = arrives_by (clock_of design net) (delay design net 1) tick

-- the level one tick before, `init` at tick 0
abbrev pub level_held : Level → (ℕ → Level) → ℕ → Level
level_held init level zero = init
level_held init level (suc tick) = level tick

-- a flip-flop's level: where a sample arrives that of its data when it was taken, else its own of the tick before
abbrev pub flop_row : Design → (ℕ → ℕ → Level) → ℕ → ℕ → ℕ → Level
flop_row design level net tick source =
    if arrives design net tick then level source (tick - delay design net 1) else level_held (initial_level design net) (level net) tick

-- the level of a net at a tick by its driver
abbrev pub row : Design → (ℕ → ℕ → Level) → ℕ → ℕ → Driver → Level
row design level net tick Input = stimulus design net tick
row design level net tick (Gate kind operands) = gate kind (pin_levels design level net tick 1 operands)
row design level net tick (Flop source) = flop_row design level net tick source

-- the row of a net at a tick looks at another net's level at an earlier tick
abbrev pub LooksAt : Design → ℕ → ℕ → Driver → ℕ → ℕ → Type 0
LooksAt design net tick Input other past = ⊥
LooksAt design net tick (Gate kind operands) other past =
    (k : ℕ) × (k < length operands) × (slice_index operands k ≡ other) × (past + delay design net (k + 1) ≡ tick)
LooksAt design net tick (Flop source) other past =
    (source ≡ other) × (past + delay design net 1 ≡ tick) × IsTrue (arrives design net tick)
