-- The level of each net at each tick, its changes and their count.
-- Levels are 0, 1 and x, the unknown value of IEEE 1364-2005, 4.1. Delays are transport delays: a pulse passes however short it is.
use Rattle.std.specs.Prelude.{ℕ, zero, suc, ◌-◌, nat_lt, List, [], ◌∷◌, Option, Some, None, if◌then◌else◌}
use Rattle.cmb_wave.specs.declared.level.Level.{Level}
use Rattle.cmb_wave.specs.declared.level.Level.TheVariants.{X}
use Rattle.cmb_wave.specs.declared.level.Change.{Change}
use Rattle.cmb_wave.specs.Waveform.{changes_between, count_below}
use Rattle.cmb_netlist.specs.declared.netlist.Driver.{Driver}
use Rattle.cmb_netlist.specs.declared.netlist.Driver.TheVariants.{Input, Gate, Flop}
use Rattle.cmb_netlist.specs.Netlist.{driver_of}
use Rattle.cmb_design_model.specs.Design.{Design}
use Rattle.cmb_design_model.specs.Gate.{gate}
use Rattle.cmb_design_model.specs.Timing.{delay, stimulus, clock_of, initial_level, last_sample}

-- a waveform so many ticks ago, x before tick 0
abbrev pub delayed : (ℕ → Level) → ℕ → ℕ → Level
delayed level ticks tick =
    let past = level (tick - ticks) in
    if nat_lt tick ticks then X else past

-- the levels on the pins of a net's gate, from a pin on, each as late as the pin's delay
abbrev pub pin_levels : Design → (ℕ → ℕ → Level) → ℕ → ℕ → ℕ → List ℕ → List Level
pin_levels design level net tick pin [] = []
pin_levels design level net tick pin (operand ∷ operands) =
    delayed (level operand) (delay design net pin) tick ∷ pin_levels design level net tick (suc pin) operands

-- the level of a net at a sample tick, `init` where there is none
abbrev pub sampled : (ℕ → Level) → Level → Option ℕ → Level
sampled level init None = init
sampled level init (Some sample) = level sample

-- a flip-flop's level: that of its data at the last sample tick that lies its delay or more back, and its first level where there is none
abbrev pub flop_level : Design → (ℕ → Level) → ℕ → ℕ → Level
flop_level design level net tick =
    let past = sampled level (initial_level design net) (last_sample (clock_of design net) (tick - delay design net 1)) in
    if nat_lt tick (delay design net 1) then initial_level design net else past

-- what a net has at a tick by its driver, where `level` tells the levels of all nets at earlier ticks
abbrev pub driven_level : Design → (ℕ → ℕ → Level) → ℕ → ℕ → Driver → Level
driven_level design level net tick Input = stimulus design net tick
driven_level design level net tick (Gate kind operands) = gate kind (pin_levels design level net tick 1 operands)
driven_level design level net tick (Flop source) = flop_level design (level source) net tick

-- the level of a net at a tick, looking back through at most so many drivers
unfoldable pub level_within : Design → ℕ → ℕ → ℕ → Level
level_within design zero net tick = X
level_within design (suc drivers) net tick =
    driven_level design (level_within design drivers) net tick (driver_of design.netlist net)

-- the level of a net at a tick. Each driver looks back at least one tick, so there are at most `tick + 1` of them
unfoldable pub value : Design → ℕ → ℕ → Level
unfolding level_within
value design net tick = level_within design (suc tick) net tick

-- the changes of a net at ticks of [from, to)
abbrev pub changes : Design → ℕ → ℕ → ℕ → List Change
changes design net from to = changes_between (value design net) from to

-- how many changes a net has at ticks below this one
abbrev pub count : Design → ℕ → ℕ → ℕ
count design net upto = count_below (value design net) upto
