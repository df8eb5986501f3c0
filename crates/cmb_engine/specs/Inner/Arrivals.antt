-- When samples arrive in a window.
use Rattle.std.specs.Prelude.{◌≡◌, ℕ, ◌+◌, ◌-◌, ◌%◌, ◌<◌, ◌≤◌, ◌&&◌, ◌==◌, nat_le}
use Rattle.cmb_engine.specs.Rows.{arrives_by}
use Rattle.cmb_engine.specs.declared.arrivals.Arrival.{Arrival}

-- in the words that end before a tick, samples arrive from a place on first at the arrival's, and then after each whole period
pub record IsArrival (arrival : Arrival) (to first : ℕ) : Type 0 where
  pub reach : first ≤ arrival.place
  pub arrives : (place : ℕ) → first ≤ place → place < 64
      → arrives_by arrival.clock arrival.delay (to + place - 64) ≡ (nat_le arrival.place place && ((place - arrival.place) % arrival.clock.period == 0))
