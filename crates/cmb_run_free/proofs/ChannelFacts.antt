-- No piece of a channel is lost, whatever is put, taken and given.
use Rattle.std.proofs.Common.{◌≡◌, ◌∙◌, ℕ, ◌<◌, ◌≤◌, List, [], ◌∷◌, ◌++◌, Option, Some, None, IsSome, refl, ap, sym, subst, arith, All, map}
use Rattle.std.specs.List.{Contains}
use Rattle.std.proofs.lemmas.List.Elements.{All-contains, All-weaker, All-map, All-contains_itself}
use Rattle.cmb_wave.specs.Wave.{Piece}
use Rattle.cmb_core_cluster.specs.Clusters.{Cluster, IsSameButWaves, given_only, input_slot}
use Rattle.cmb_core_cluster.specs.Directory.{place_in}
use Rattle.cmb_core_cluster.specs.Rows.{Process, slot_of}
use Rattle.cmb_core_cluster.specs.Step.{wave_at}
use Rattle.cmb_core_cluster.proofs.ClusterLemmas.{slot_place}
use Rattle.cmb_links.specs.Links.{PutData, TakeData, after_put, after_take, channel_clock}
use Rattle.cmb_links.proofs.Channels.{clock_keeps, clock_meets, clock_within}
use Rattle.cmb_run_free.specs.Inner.Channels.{IsCut, IsFedBy, IsFurther, IsLater, IsOutbound, IsOutlet, MayFollow}
use Rattle.cmb_run_free.specs.declared.passing.Passing.{Passing}

-- ---- what is read

-- a cluster keeps its places
slot_same : (old new : Cluster) → IsSameButWaves old new → (net : ℕ) → input_slot old net ≡ input_slot new net
slot_same old new same net =
    ap (given_only old) (slot_place old.waves net ∙ ap (λ nets. place_in nets net) (sym same.nets) ∙ sym (slot_place new.waves net))
    ∙ ap (λ (ps : List Process). given_by ps (slot_of new.waves net)) (sym same.processes)
  where
    given_by : List Process → Option ℕ → Option ℕ
    given_by ps o = given_only record { horizon = 0; processes = ps; waves = [] } o

pub IsLater-same : (s : Cluster) → IsLater s s
IsLater-same s = record { same = record { horizon = refl; processes = refl; nets = refl }; rises = λ net. omega arith }

pub IsLater-again : (a b c : Cluster) → IsLater a b → IsLater b c → IsLater a c
IsLater-again a b c p q = record {
  same = record { horizon = q.same.horizon ∙ p.same.horizon; processes = q.same.processes ∙ p.same.processes; nets = q.same.nets ∙ p.same.nets };
  rises = λ net. omega (arith, p.rises net, q.rises net);
}

pub IsFedBy-later : (old new : Cluster) → IsLater old new → (pass : TakeData) → IsFedBy old pass → IsFedBy new pass
IsFedBy-later old new later pass fed = record {
  read = All-weaker (λ net. IsSome (input_slot old net)) (λ net. IsSome (input_slot new net)) (λ net h. subst (λ (o : Option ℕ). IsSome o) (slot_same old new later.same net) h) pass.nets fed.read;
  given = λ net. omega (arith, fed.given net, later.rises net);
}

pub all_fed-later : (old new : Cluster) → IsLater old new → (ins : List TakeData) → All (IsFedBy old) ins → All (IsFedBy new) ins
all_fed-later old new later ins all = All-weaker (IsFedBy old) (IsFedBy new) (IsFedBy-later old new later) ins all

-- a piece that was taken may be given, and then it is
pub may_give : (s : Cluster) (pass : TakeData) (piece : Piece) → IsFedBy s pass → Contains pass.nets piece.net → piece.from ≤ channel_clock piece.net pass.received
    → IsSome (input_slot s piece.net) × (piece.from ≤ (wave_at s.waves piece.net).clock)
may_give s pass piece fed carried joined = (All-contains (λ net. IsSome (input_slot s net)) pass.nets piece.net fed.read carried, omega (arith, joined, fed.given piece.net))

pub IsFedBy-given : (old new : Cluster) (pass : TakeData) (piece : Piece) → IsFedBy old pass → IsLater old new → piece.to ≤ (wave_at new.waves piece.net).clock → IsFedBy new (after_take pass piece)
IsFedBy-given old new pass piece fed later met =
    let on = IsFedBy-later old new later pass fed in
    record {
      read = on.read;
      given = λ net. clock_within net (wave_at new.waves net).clock pass.received piece (on.given net) (λ e. subst (λ (n : ℕ). piece.to ≤ (wave_at new.waves n).clock) e met);
    }

-- a link of which nothing was taken
pub IsFedBy-new : (s : Cluster) (pass : TakeData) → All (λ net. IsSome (input_slot s net)) pass.nets → pass.received ≡ [] → IsFedBy s pass
IsFedBy-new s pass read none = record {
  read = read;
  given = λ net. let zero : channel_clock net pass.received ≡ 0 = ap (channel_clock net) none in omega arith;
}

-- ---- what is fed

pub IsFurther-same : (pass : PutData) → IsFurther pass pass
IsFurther-same pass = record { nets = refl; clocks = λ net. omega arith }

pub IsFurther-put : (pass : PutData) (piece : Piece) → IsFurther pass (after_put pass piece)
IsFurther-put pass piece = record { nets = refl; clocks = λ net. clock_keeps net pass.sent piece }

pub IsOutlet-further : (horizon : ℕ) (old new : PutData) → IsFurther old new → (passing : Passing) → IsOutlet horizon old passing → IsOutlet horizon new passing
IsOutlet-further horizon old new on passing is = record {
  carried = subst (λ (nets : List ℕ). Contains nets passing.net) (sym on.nets) is.carried;
  put = λ below. omega (arith, is.put below, on.clocks passing.net);
}

pub all_outlets-further : (horizon : ℕ) (old new : PutData) → IsFurther old new → (outlets : List Passing) → All (IsOutlet horizon old) outlets → All (IsOutlet horizon new) outlets
all_outlets-further horizon old new on outlets all = All-weaker (IsOutlet horizon old) (IsOutlet horizon new) (IsOutlet-further horizon old new on) outlets all

-- what is cut of a net may be put, and then the net is put up to there
pub cut_follows : (horizon : ℕ) (pass : PutData) (old new : Passing) (piece : Piece) → IsOutlet horizon pass old → IsCut horizon old new (Some piece) → MayFollow pass piece
cut_follows horizon pass old new piece is cut = record {
  carried = subst (λ (n : ℕ). Contains pass.nets n) (sym cut.0) is.carried;
  joined = omega (arith, cut.1, is.put cut.2, ap (λ n. channel_clock n pass.sent) cut.0);
}

pub IsOutlet-put : (horizon : ℕ) (pass : PutData) (old new : Passing) (piece : Piece) → IsOutlet horizon pass old → new.net ≡ old.net → IsCut horizon old new (Some piece) → IsOutlet horizon (after_put pass piece) new
IsOutlet-put horizon pass old new piece is same cut = record {
  carried = subst (λ (n : ℕ). Contains pass.nets n) (sym same) is.carried;
  put = λ below. omega (arith, cut.3, clock_meets pass.sent piece, ap (λ n. channel_clock n (pass.sent ++ piece ∷ [])) (cut.0 ∙ sym same));
}

pub IsOutlet-kept : (horizon : ℕ) (pass : PutData) (old new : Passing) → IsOutlet horizon pass old → new.net ≡ old.net → (new.upto < horizon → new.upto ≡ old.upto) → IsOutlet horizon pass new
IsOutlet-kept horizon pass old new is same still = record {
  carried = subst (λ (n : ℕ). Contains pass.nets n) (sym same) is.carried;
  put = λ below. let e = still below in omega (arith, is.put (omega arith), ap (λ n. channel_clock n pass.sent) same);
}

-- nets of which nothing was sent
pub all_unsent : (horizon : ℕ) (pass : PutData) (nets : List ℕ) → pass.nets ≡ nets → All (IsOutlet horizon pass) (map (λ net. record { net = net; upto = 0 }) nets)
all_unsent horizon pass nets e =
    All-map (IsOutlet horizon pass) (λ net. record { net = net; upto = 0 }) nets
    (All-weaker (Contains nets) (λ net. IsOutlet horizon pass record { net = net; upto = 0 }) (λ net h. record { carried = subst (λ (ns : List ℕ). Contains ns net) (sym e) h; put = λ below. omega arith }) nets (All-contains_itself nets))

-- a way out of which nothing was put
pub IsOutbound-new : (horizon : ℕ) (pass : PutData) (nets : List ℕ) (outlets : List Passing) → pass.nets ≡ nets → outlets ≡ map (λ net. record { net = net; upto = 0 }) nets → IsOutbound horizon pass None outlets
IsOutbound-new horizon pass nets outlets e is = record { waits = tt; outlets = subst (All (IsOutlet horizon pass)) (sym is) (all_unsent horizon pass nets e) }

-- one that goes on with some of its nets, once nothing waits
pub IsOutbound-left : (horizon : ℕ) (pass : PutData) (waiting : Option Piece) (old new : List Passing) → waiting ≡ None → All (IsOutlet horizon pass) old → All (Contains old) new → IsOutbound horizon pass waiting new
IsOutbound-left horizon pass waiting old new none all among =
    let P : Option Piece → Type 0 = λ w. IsOutbound horizon pass w new in
    subst P (sym none) (record { waits = tt; outlets = All-weaker (Contains old) (IsOutlet horizon pass) (λ passing has. All-contains (IsOutlet horizon pass) old passing all has) new among })
