-- What a worker does, event by event. Each event of the machine of clocks has the worker's own part of it here: a piece that was taken
-- is delivered, a promise that was looked up is heard or not, nets are stepped, a piece is posted, a net is promised.
use Rattle.std.specs.Prelude.{◌≡◌, ◌≢◌, ℕ, ◌<◌, ◌≤◌, max, Bool, List, [], ◌∷◌, ◌++◌, Option, None, Some, IsSome}
use Rattle.std.specs.List.{Contains}
use Rattle.cmb_wave.specs.Calls.{promised}
use Rattle.cmb_wave.specs.Wave.{Piece, cut_of}
use Rattle.cmb_wave.specs.declared.level.Promise.{Promise}
use Rattle.cmb_design_model.specs.Design.{Design}
use Rattle.cmb_core_cluster.specs.Clustering.{Clustering}
use Rattle.cmb_core_cluster.specs.Clusters.{Cluster, IsDrivenHere, IsSameButWaves, input_slot}
use Rattle.cmb_core_cluster.specs.Opened.{IsClusterOf, own_nets}
use Rattle.cmb_core_cluster.specs.Step.{wave_at}
use Rattle.cmb_core_cluster.specs.Sweep.{stepped_waves}
use Rattle.cmb_links.specs.Links.{PutData, TakeData, after_put, after_take}
use Rattle.cmb_links.specs.Promises.{newest}
use Rattle.cmb_links.specs.Seats.{after_check, after_count, after_finish, after_look, after_publish, after_raise}
use Rattle.cmb_links.specs.declared.view.View.{View}
use Rattle.cmb_run_exact.specs.Passed.{IsHeard}
use Rattle.cmb_run_free.specs.Inner.Channels.{MayFollow, Outbound}

-- a worker's cluster, the links by which it is sent nets and those by which it sends some, and what its seat knows of the board
pub record Working : Type 0 where
  pub cluster : Cluster
  pub ins : List TakeData
  pub outs : List Outbound
  pub seat : View

abbrev pub outbound : PutData → Option Piece → Outbound
outbound pass waiting = record { pass = pass; waiting = waiting }

abbrev pub working : Cluster → List TakeData → List Outbound → View → Working
working cluster ins outs seat = record { cluster = cluster; ins = ins; outs = outs; seat = seat }

-- ---- events

pub data Act : Type 0 where
  -- a piece is taken from a link and delivered, or refused since it tells nothing new
  Deliver : Piece → Act
  -- a net's word of the board holds this promise; it is heard
  Look : Promise → Act
  Hear : Promise → Act
  -- each net of the cluster is stepped once, in order
  Step : Act
  -- a piece is cut for a link; it is put there
  Post : Piece → Act
  Put : Piece → Act
  -- the board is told how far a net is known
  Publish : Promise → Act
  -- the stop word is raised or looked at, the worker is counted as finished, the finished ones are counted
  Raise : Act
  Check : Bool → Act
  Finish : Act
  Count : ℕ → Act

-- one of a list changed, and so
pub record IsChanged {A : Type 0} (Goes : A → A → Type 0) (old new : List A) : Type 0 where
  pub before : List A
  pub one : A
  pub other : A
  pub after : List A
  pub was : old ≡ before ++ one ∷ after
  pub is : new ≡ before ++ other ∷ after
  pub goes : Goes one other

-- the net is known up to the piece's end at least, and every other as far as before
pub record IsDelivered (piece : Piece) (old new : Cluster) : Type 0 where
  pub same : IsSameButWaves old new
  pub read : IsSome (input_slot old piece.net)
  pub joined : piece.from ≤ (wave_at old.waves piece.net).clock
  pub met : (wave_at new.waves piece.net).clock ≡ max (wave_at old.waves piece.net).clock piece.to
  pub others : (other : ℕ) → other ≢ piece.net → (wave_at new.waves other).clock ≡ (wave_at old.waves other).clock

-- each clock is the one that a step of each net of the cluster leaves
pub record IsStepped (design : Design) (clustering : Clustering) (old new : Cluster) : Type 0 where
  pub same : IsSameButWaves old new
  pub clocks : (cluster net : ℕ) → IsClusterOf design clustering cluster old
      → (wave_at new.waves net).clock ≡ (wave_at (stepped_waves design old.waves (own_nets design clustering cluster)) net).clock

-- the piece is all that the cluster knows of a net of its own from some tick on
pub record IsCutOf (cluster : Cluster) (piece : Piece) : Type 0 where
  pub driven : IsDrivenHere cluster piece.net
  pub cut : piece ≡ cut_of (wave_at cluster.waves piece.net) piece.from

-- such a piece, which leaves no gap behind those before it, waits for room
pub record IsPosted (cluster : Cluster) (piece : Piece) (old new : Outbound) : Type 0 where
  pub cut : IsCutOf cluster piece
  pub follows : MayFollow old.pass piece
  pub none : old.waiting ≡ None
  pub waits : new ≡ outbound old.pass (Some piece)

pub record IsPut (piece : Piece) (old new : Outbound) : Type 0 where
  pub waited : old.waiting ≡ Some piece
  pub put : new ≡ outbound (after_put old.pass piece) None

-- the promise is of what the cluster knows of a net of its own, and beyond what the board was told
pub record IsPromised (cluster : Cluster) (seat : View) (promise : Promise) : Type 0 where
  pub driven : IsDrivenHere cluster promise.net
  pub known : promise ≡ promised (wave_at cluster.waves promise.net)
  pub further : (newest promise.net seat.promised.published).upto < promise.upto

-- what an event leaves of what a worker has
abbrev pub Row : Design → Clustering → Act → Working → Working → Type 0
Row design clustering (Deliver piece) old new =
    IsDelivered piece old.cluster new.cluster × IsChanged (λ pass later. later ≡ after_take pass piece) old.ins new.ins
    × (new ≡ working new.cluster new.ins old.outs old.seat)
Row design clustering (Look promise) old new = new ≡ working old.cluster old.ins old.outs (after_look old.seat promise)
Row design clustering (Hear promise) old new =
    Contains old.seat.promised.loads promise × IsHeard promise old.cluster new.cluster (input_slot old.cluster promise.net)
    × (new ≡ working new.cluster old.ins old.outs old.seat)
Row design clustering Step old new = IsStepped design clustering old.cluster new.cluster × (new ≡ working new.cluster old.ins old.outs old.seat)
Row design clustering (Post piece) old new =
    IsChanged (IsPosted old.cluster piece) old.outs new.outs × (new ≡ working old.cluster old.ins new.outs old.seat)
Row design clustering (Put piece) old new = IsChanged (IsPut piece) old.outs new.outs × (new ≡ working old.cluster old.ins new.outs old.seat)
Row design clustering (Publish promise) old new =
    IsPromised old.cluster old.seat promise × (new ≡ working old.cluster old.ins old.outs (after_publish old.seat promise))
Row design clustering Raise old new = new ≡ working old.cluster old.ins old.outs (after_raise old.seat)
Row design clustering (Check raised) old new = new ≡ working old.cluster old.ins old.outs (after_check old.seat raised)
Row design clustering Finish old new = new ≡ working old.cluster old.ins old.outs (after_finish old.seat)
Row design clustering (Count finished) old new = new ≡ working old.cluster old.ins old.outs (after_count old.seat finished)

-- ---- lists of them

-- each event of the list goes on from what the one before it left
abbrev pub Lead : Design → Clustering → List Act → Working → Working → Type 0
Lead design clustering [] old new = new ≡ old
Lead design clustering (act ∷ acts) old new = (between : Working) × Row design clustering act old between × Lead design clustering acts between new

-- some list of events leads there
pub record Goes (design : Design) (clustering : Clustering) (old new : Working) : Type 0 where
  pub acts : List Act
  pub lead : Lead design clustering acts old new

-- whatever else the worker has: by its place at the board, by a link out, by a link in
abbrev pub SeatGoes : Design → Clustering → View → View → Type 0
SeatGoes design clustering old new =
    (cluster : Cluster) (ins : List TakeData) (outs : List Outbound) → Goes design clustering (working cluster ins outs old) (working cluster ins outs new)

abbrev pub OutGoes : Design → Clustering → Cluster → Outbound → Outbound → Type 0
OutGoes design clustering cluster old new =
    (ins : List TakeData) (before after : List Outbound) (seat : View)
    → Goes design clustering (working cluster ins (before ++ old ∷ after) seat) (working cluster ins (before ++ new ∷ after) seat)

abbrev pub InGoes : Design → Clustering → Cluster → TakeData → Cluster → TakeData → Type 0
InGoes design clustering old pass new later =
    (before after : List TakeData) (outs : List Outbound) (seat : View)
    → Goes design clustering (working old (before ++ pass ∷ after) outs seat) (working new (before ++ later ∷ after) outs seat)

-- some list of events leads to all that others can see of the worker; of what it has itself something may be lost
pub record IsCutShort (design : Design) (clustering : Clustering) (old new : Working) : Type 0 where
  pub upto : Working
  pub goes : Goes design clustering old upto
  pub outs : new.outs ≡ upto.outs
  pub seat : new.seat ≡ upto.seat
