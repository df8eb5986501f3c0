-- What a cluster's waves know once it took a piece, or was told a promise.
use Rattle.std.specs.Prelude.{◌≡◌, ◌≢◌, ℕ, List, Option, None, Some}
use Rattle.cmb_wave.specs.Calls.{heard_wave}
use Rattle.cmb_wave.specs.Wave.{Wave}
use Rattle.cmb_wave.specs.declared.level.Promise.{Promise}
use Rattle.cmb_core_cluster.specs.Clusters.{Cluster}
use Rattle.cmb_core_cluster.specs.Step.{wave_at, with_wave}

-- a cluster's waves before and after it took a piece of a net: that net is known up to the piece's end, the others as far as before
pub record IsPassed (net to : ℕ) (old new : List Wave) : Type 0 where
  pub met : (wave_at new net).clock ≡ to
  pub others : (other : ℕ) → other ≢ net → (wave_at new other).clock ≡ (wave_at old other).clock

-- a cluster before and after it was told a promise: the input wave of its net makes of it what a wave does, and where there is none
-- nothing changes
abbrev pub IsHeard : Promise → Cluster → Cluster → Option ℕ → Type 0
IsHeard promise old new None = new ≡ old
IsHeard promise old new (Some slot) = new.waves ≡ with_wave old.waves (heard_wave (wave_at old.waves promise.net) promise)
