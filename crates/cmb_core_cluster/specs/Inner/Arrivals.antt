-- When the changes of operands reach an output, and what it is then.
use Rattle.std.specs.Prelude.{◌≡◌, ℕ, ◌+◌, ◌-◌, ◌≤◌, ◌<◌, max, nat_le, List, [], ◌∷◌, if◌then◌else◌, min, ◌^◌}
use Rattle.cmb_wave.specs.declared.level.Level.{Level}
use Rattle.cmb_wave.specs.declared.level.Change.{Change}
use Rattle.cmb_netlist.specs.declared.netlist.Kind.{Kind}
use Rattle.cmb_core_cluster.specs.declared.merge.Lag.{Lag}
use Rattle.cmb_core_cluster.specs.declared.merge.Lag.TheVariants.{Delay, Sampled}
use Rattle.cmb_core_cluster.specs.declared.merge.PinCursor.{PinCursor}
use Rattle.cmb_design_model.specs.Gate.{gate}
use Rattle.cmb_design_model.specs.Timing.{sample_from}

-- the tick at which a change at tick `t` reaches the output
abbrev pub arrives : Lag → ℕ → ℕ
arrives (Delay delay) t = t + delay
arrives (Sampled first period delay) t = sample_from first (max period 1) t + delay

-- the level that has reached the output by tick `t`
abbrev pub arrived : Lag → Level → List Change → ℕ → Level
arrived lag level [] t = level
arrived lag level (c ∷ cs) t = if nat_le (arrives lag c.tick) t then arrived lag c.level cs t else level

abbrev pub pin_at : PinCursor → ℕ → Level
pin_at p t = arrived p.lag p.level p.rest.now t

abbrev pub pins_at : List PinCursor → ℕ → List Level
pins_at [] t = []
pins_at (p ∷ ps) t = pin_at p t ∷ pins_at ps t

abbrev pub levels : List PinCursor → List Level
levels [] = []
levels (p ∷ ps) = p.level ∷ levels ps

-- the output's level
abbrev pub gate_at : Kind → List PinCursor → ℕ → Level
gate_at kind pins t = gate kind (pins_at pins t)

-- when the next change of a list reaches the output, beyond any tick where there is none
abbrev pub due_of : Lag → List Change → ℕ
due_of lag [] = 2 ^ 64 - 1
due_of lag (c ∷ cs) = arrives lag c.tick

-- the first tick at which a change of any pin reaches the output, at most `until`
abbrev pub least_due : List PinCursor → ℕ → ℕ
least_due [] until = until
least_due (p ∷ ps) until = min (due_of p.lag p.rest.now) (least_due ps until)

-- a pin let the changes through that arrive by `now`, and the next one arrives at `next`
pub record Advanced (old new : PinCursor) (now next : ℕ) : Type 0 where
  pub same : (t : ℕ) → now ≤ t → pin_at new t ≡ pin_at old t
  pub steady : (t : ℕ) → now ≤ t → t < next → pin_at new t ≡ new.level
  pub later : now < next
  pub due : next ≡ due_of new.lag new.rest.now

-- from `now` to `next` the pins show the levels that have reached the output
pub record Passed (old new : List PinCursor) (now until next : ℕ) : Type 0 where
  pub same : (t : ℕ) → now ≤ t → pins_at new t ≡ pins_at old t
  pub steady : (t : ℕ) → now ≤ t → t < next → pins_at old t ≡ levels new
  pub later : now < next
  pub within : next ≤ until
  pub due : next ≡ least_due new until
