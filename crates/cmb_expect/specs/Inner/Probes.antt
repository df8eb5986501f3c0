-- The rows in the order of their ticks, and the levels that were found for them.
use Rattle.std.specs.Prelude.{◌≡◌, ◌+◌, ◌<◌, ◌≤◌, ℕ, List, length, slice_index_or, All, Contains}
use Rattle.cmb_wave.specs.declared.level.Level.{Level}
use Rattle.cmb_design_model.specs.declared.expected.Expected.{Expected}
use Rattle.cmb_expect.specs.declared.probe.Probe.{Probe}

abbrev pub probe_of : Expected → ℕ → Probe
probe_of row place = record { tick = row.tick; net = row.net; place = place }

-- a probe is that of the row at its place
abbrev pub IsProbe : List Expected → Probe → Type 0
IsProbe rows probe = (probe.place < length rows) × ((d : Expected) → probe ≡ probe_of (slice_index_or rows probe.place d) probe.place)

-- the ticks don't fall
abbrev pub AreRising : List Probe → Type 0
AreRising probes = (i j : ℕ) (d : Probe) → i ≤ j → j < length probes → (slice_index_or probes i d).tick ≤ (slice_index_or probes j d).tick

-- the probes of all rows, by rising tick
pub record AreProbes (rows : List Expected) (probes : List Probe) : Type 0 where
  pub each : All (IsProbe rows) probes
  pub whole : (place : ℕ) (d : Expected) → place < length rows → Contains probes (probe_of (slice_index_or rows place d) place)
  pub rising : AreRising probes

-- a probe of so many nets, of one of so many rows, and at a tick below the horizon
abbrev pub IsLawful : ℕ → ℕ → ℕ → Probe → Type 0
IsLawful nets places horizon probe = (probe.net < nets) × (probe.place < places) × (probe.tick < horizon)

-- such probes by rising tick, of which no two are of one row
pub record AreLawful (nets places horizon : ℕ) (probes : List Probe) : Type 0 where
  pub each : All (IsLawful nets places horizon) probes
  pub rising : AreRising probes
  pub apart : (i j : ℕ) (d : Probe) → i < length probes → j < length probes → (slice_index_or probes i d).place ≡ (slice_index_or probes j d).place
      → slice_index_or probes i d ≡ slice_index_or probes j d

-- the ticks of the probes from one on aren't below this one
abbrev pub AreLater : ℕ → List Probe → ℕ → Type 0
AreLater tick probes done = (i : ℕ) (d : Probe) → done ≤ i → i < length probes → tick ≤ (slice_index_or probes i d).tick

-- for so many of the probes the levels were found
abbrev pub AreFound : (ℕ → ℕ → Level) → List Probe → ℕ → List Level → Type 0
AreFound level probes done found = (i : ℕ) (p : Probe) (d : Level) → i < done → i < length probes
    → slice_index_or found (slice_index_or probes i p).place d ≡ level (slice_index_or probes i p).net (slice_index_or probes i p).tick
