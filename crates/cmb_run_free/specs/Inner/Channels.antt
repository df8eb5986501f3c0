-- What a worker keeps of the channels that it reads and of those that it feeds: no piece is lost.
use Rattle.std.specs.Prelude.{◌≡◌, ℕ, ◌<◌, ◌≤◌, List, [], Option, None, Some, IsSome, All}
use Rattle.std.specs.List.{Contains}
use Rattle.cmb_wave.specs.Wave.{Piece}
use Rattle.cmb_core_cluster.specs.Clusters.{Cluster, IsSameButWaves, input_slot}
use Rattle.cmb_core_cluster.specs.Step.{wave_at}
use Rattle.cmb_links.specs.Links.{PutData, TakeData, after_put, channel_clock}
use Rattle.cmb_run_free.specs.declared.passing.Passing.{Passing}

-- ---- what is read

-- the cluster at a later time: no clock fell
pub record IsLater (old new : Cluster) : Type 0 where
  pub same : IsSameButWaves old new
  pub rises : (net : ℕ) → (wave_at old.waves net).clock ≤ (wave_at new.waves net).clock

-- the cluster reads the nets of a link, and was given all that was taken from it
pub record IsFedBy (cluster : Cluster) (pass : TakeData) : Type 0 where
  pub read : All (λ net. IsSome (input_slot cluster net)) pass.nets
  pub given : (net : ℕ) → channel_clock net pass.received ≤ (wave_at cluster.waves net).clock

-- ---- what is fed

-- a piece that may be put next: the link carries its net, and it leaves no gap
pub record MayFollow (pass : PutData) (piece : Piece) : Type 0 where
  pub carried : Contains pass.nets piece.net
  pub joined : piece.from ≤ channel_clock piece.net pass.sent

abbrev pub MayWait : PutData → Option Piece → Type 0
MayWait pass None = Unit {0}
MayWait pass (Some piece) = MayFollow pass piece

-- what was put, and what waits for room
abbrev pub due : PutData → Option Piece → PutData
due pass None = pass
due pass (Some piece) = after_put pass piece

-- as much was put at least
pub record IsFurther (old new : PutData) : Type 0 where
  pub nets : new.nets ≡ old.nets
  pub clocks : (net : ℕ) → channel_clock net old.sent ≤ channel_clock net new.sent

-- the link carries the net, all of which was put up to the tick that is noted, unless that is the horizon, behind which nothing follows
pub record IsOutlet (horizon : ℕ) (pass : PutData) (passing : Passing) : Type 0 where
  pub carried : Contains pass.nets passing.net
  pub put : passing.upto < horizon → passing.upto ≤ channel_clock passing.net pass.sent

-- what is cut of a net goes on from the tick that was noted up to the one that is noted then
abbrev pub IsCut : ℕ → Passing → Passing → Option Piece → Type 0
IsCut horizon old new None = new.upto < horizon → new.upto ≡ old.upto
IsCut horizon old new (Some piece) = (piece.net ≡ old.net) × (piece.from ≡ old.upto) × (old.upto < horizon) × (piece.to ≡ new.upto)

-- what was put into a link, and a piece that waits for room there
pub record Outbound : Type 0 where
  pub pass : PutData
  pub waiting : Option Piece

-- a piece that waits may be put, and no piece of these nets is lost
pub record IsOutbound (horizon : ℕ) (pass : PutData) (waiting : Option Piece) (nets : List Passing) : Type 0 where
  pub waits : MayWait pass waiting
  pub outlets : All (IsOutlet horizon (due pass waiting)) nets

-- nothing was put, and nothing taken
pub record IsNewOut (nets : List ℕ) (out : Outbound) (take : TakeData) : Type 0 where
  pub nets_are : take.nets ≡ nets
  pub received : take.received ≡ []
