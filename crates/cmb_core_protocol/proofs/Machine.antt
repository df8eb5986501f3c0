-- The machine of clocks: what each event keeps, and that no clock falls.
use Rattle.std.proofs.Common.{◌≡◌, ◌≢◌, ℕ, zero, suc, ◌<◌, ◌≤◌, List, [], ◌∷◌, ◌++◌, ◌⊎◌, inl, inr, length, get_or, set, replicate, Option, Some, None, refl, ap, sym, ◌∙◌, subst, arith, leb, ltb, eqb, length-set, get_or-set_same, get_or-set_other}
use Rattle.std.specs.Prelude.{slice_get}
use Rattle.std.specs.List.{AllByRecursion}
use Rattle.std.proofs.lemmas.List.{set_past, length-replicate}
use Rattle.std.proofs.lemmas.Bool.{ltb-true, ltb-false, leb-false, eqb-false, cases_eq, cases_lt, cond_both}
use Rattle.cmb_netlist.specs.declared.netlist.Driver.{Driver}
use Rattle.cmb_netlist.specs.declared.netlist.Driver.TheVariants.{Input, Gate, Flop}
use Rattle.cmb_netlist.specs.Netlist.{driver_of, pins_of}
use Rattle.cmb_design_model.specs.Design.{Design}
use Rattle.cmb_design_model.specs.Exact.{nets_of, IsExactIn, IsRightIn}
use Rattle.cmb_core_protocol.specs.declared.event.Event.{Event}
use Rattle.cmb_core_protocol.specs.declared.event.Event.TheVariants.{Step, Post, Deliver, Promise as Promises, Look}
use Rattle.cmb_core_cluster.specs.Clustering.{Clustering, has_input}
use Rattle.cmb_core_cluster.specs.Reach.{pins_reach, driver_reach}
use Rattle.cmb_core_protocol.specs.Clocks.{Span, Bound, Clocks, Outcome, out_clock, in_clock, machine_reach, start, with_out, with_in, piece_of, promise_of, stepped, posted, machine_delivered, machine_promised, looked, play}
use Rattle.cmb_core_protocol.specs.Run.{clocks_after, IsReachable, IsWithin, NotBelow}
use Rattle.cmb_core_cluster.proofs.Everywhere.{all_push, all_weaker, all_at}
use Rattle.cmb_core_cluster.proofs.ReachFacts.{driver_reach-within}

-- ---- lists

set-cases : {A : Type 0} (xs : List A) (i : ℕ) (v : A) (k : ℕ) (d : A) → ((k ≡ i) × (get_or (set xs i v) k d ≡ v)) ⊎ (get_or (set xs i v) k d ≡ get_or xs k d)
set-cases {A} xs i v k d = go (cases_eq k i) (cases_lt i (length xs))
  where
    go : (k ≡ i) ⊎ (k ≡ i → ⊥) → (i < length xs) ⊎ (length xs ≤ i) → ((k ≡ i) × (get_or (set xs i v) k d ≡ v)) ⊎ (get_or (set xs i v) k d ≡ get_or xs k d)
    go (inl e) (inl l) = inl (e, ap (λ n. get_or (set xs i v) n d) e ∙ get_or-set_same xs i v d l)
    go (inl e) (inr past) = inr (ap (λ ys. get_or ys k d) (set_past xs i v past))
    go (inr ne) _ = inr (get_or-set_other xs i k v d ne)

pub zeros : (many n : ℕ) → ◌≡◌ {A = ℕ} (get_or (replicate many 0) n 0) 0
zeros zero n = refl
zeros (suc many) zero = refl
zeros (suc many) (suc n) = zeros many n

pub rows_of_zeros : (rows many r n : ℕ) → ◌≡◌ {A = ℕ} (get_or (get_or (replicate rows (replicate many 0)) r []) n 0) 0
rows_of_zeros zero many r n = refl
rows_of_zeros (suc rows) many zero n = zeros many n
rows_of_zeros (suc rows) many (suc r) n = rows_of_zeros rows many r n

length-row : {A : Type 0} (rows : ℕ) (row : List A) (r : ℕ) → r < rows → length (get_or (replicate rows row) r []) ≡ length row
length-row zero row r h = absurd (omega arith)
length-row (suc rows) row zero h = refl
length-row (suc rows) row (suc r) h = length-row rows row r (omega arith)

-- ---- the clocks after a write

pub out-cases : (clocks : Clocks) (net tick other : ℕ) → ((other ≡ net) × (out_clock (with_out clocks net tick) other ≡ tick)) ⊎ (out_clock (with_out clocks net tick) other ≡ out_clock clocks other)
out-cases clocks net tick other = set-cases clocks.outs net tick other 0

pub in-cases : (clocks : Clocks) (cluster net tick at other : ℕ) → ((at ≡ cluster) × (other ≡ net) × (in_clock (with_in clocks cluster net tick) at other ≡ tick)) ⊎ (in_clock (with_in clocks cluster net tick) at other ≡ in_clock clocks at other)
in-cases clocks cluster net tick at other =
    go (set-cases clocks.ins cluster (set (get_or clocks.ins cluster []) net tick) at []) (set-cases (get_or clocks.ins cluster []) net tick other 0)
  where
    row : List ℕ
    row = set (get_or clocks.ins cluster []) net tick

    go : ((at ≡ cluster) × (get_or (set clocks.ins cluster row) at [] ≡ row)) ⊎ (get_or (set clocks.ins cluster row) at [] ≡ get_or clocks.ins at []) → ((other ≡ net) × (get_or row other 0 ≡ tick)) ⊎ (get_or row other 0 ≡ get_or (get_or clocks.ins cluster []) other 0) → ((at ≡ cluster) × (other ≡ net) × (in_clock (with_in clocks cluster net tick) at other ≡ tick)) ⊎ (in_clock (with_in clocks cluster net tick) at other ≡ in_clock clocks at other)
    go (inl (e, f)) (inl (g, h)) = inl (e, g, ap (λ r. get_or r other 0) f ∙ h)
    go (inl (e, f)) (inr h) = inr (ap (λ r. get_or r other 0) f ∙ h ∙ ap (λ c. get_or (get_or clocks.ins c []) other 0) (sym e))
    go (inr f) _ = inr (ap (λ r. get_or r other 0) f)

-- ---- what holds of all clocks that can come about

abbrev pub IsPosted : Design → Clocks → Span → Type 0
IsPosted design clocks span = (span.net < nets_of design) × (span.from < span.to) × (span.to ≤ out_clock clocks span.net)

abbrev pub IsPromised : Design → Clocks → Bound → Type 0
IsPromised design clocks bound = (bound.net < nets_of design) × (bound.upto ≤ out_clock clocks bound.net)

pub record IsSound (design : Design) (clustering : Clustering) (clocks : Clocks) : Type 0 where
  pub nets : length clocks.outs ≡ nets_of design
  pub clusters : length clocks.ins ≡ clustering.clusters
  pub rows : (cluster : ℕ) → cluster < clustering.clusters → length (get_or clocks.ins cluster []) ≡ nets_of design
  pub outs_within : (net : ℕ) → out_clock clocks net ≤ design.horizon
  pub ins_within : (cluster net : ℕ) → in_clock clocks cluster net ≤ out_clock clocks net
  pub posts : AllByRecursion (IsPosted design clocks) clocks.posts
  pub promises : AllByRecursion (IsPromised design clocks) clocks.promises

pub NotBelow-same : (clocks : Clocks) → NotBelow clocks clocks
NotBelow-same clocks = record { outs = λ net. omega arith; ins = λ cluster net. omega arith }

pub NotBelow-trans : (a b c : Clocks) → NotBelow a b → NotBelow b c → NotBelow a c
NotBelow-trans a b c p q = record { outs = λ net. omega (arith, p.outs net, q.outs net); ins = λ cluster net. omega (arith, p.ins cluster net, q.ins cluster net) }

abbrev pub Goes : Design → Clustering → Clocks → Clocks → Type 0
Goes design clustering before after = IsSound design clustering after × NotBelow before after

-- ---- the reach

pub reach-within : (design : Design) (clustering : Clustering) (clocks : Clocks) (net : ℕ) → machine_reach design clustering clocks net ≤ design.horizon
unfolding machine_reach
reach-within design clustering clocks net = driver_reach-within design _ net (driver_of design.netlist net)

pins_reach-agree : (design : Design) (f g : ℕ → ℕ) (net most pin : ℕ) (operands : List ℕ) → AllByRecursion (λ m. f m ≡ g m) operands → pins_reach design f net most pin operands ≡ pins_reach design g net most pin operands
pins_reach-agree design f g net most pin [] all = refl
pins_reach-agree design f g net most pin (operand ∷ operands) all =
    let here : f operand ≡ g operand = all.0 in
    rw (here, pins_reach-agree design f g net most (suc pin) operands all.1)

-- where two clocks tell the same of what is read, the reach is the same
pub driver_reach-agree : (design : Design) (f g : ℕ → ℕ) (net : ℕ) (driver : Driver) → AllByRecursion (λ m. f m ≡ g m) (pins_of driver) → driver_reach design f net driver ≡ driver_reach design g net driver
driver_reach-agree design f g net Input all = refl
driver_reach-agree design f g net (Gate kind operands) all = pins_reach-agree design f g net design.horizon 1 operands all
driver_reach-agree design f g net (Flop source) all = let here : f source ≡ g source = all.0 in rw here

-- ---- each event keeps it, and no clock falls

module _ (design : Design) (clustering : Clustering) (clocks : Clocks) (sound : IsSound design clustering clocks) where
  stays : Goes design clustering clocks clocks
  stays = (sound, NotBelow-same clocks)

  with_out-goes : (net tick : ℕ) → out_clock clocks net ≤ tick → tick ≤ design.horizon → Goes design clustering clocks (with_out clocks net tick)
  with_out-goes net tick up within = (
    record {
      nets = length-set clocks.outs net tick ∙ sound.nets;
      clusters = sound.clusters;
      rows = sound.rows;
      outs_within = bounded;
      ins_within = λ cluster other. omega (arith, sound.ins_within cluster other, rises other);
      posts = all_weaker (IsPosted design clocks) (IsPosted design (with_out clocks net tick)) (λ span p. (p.0, p.1, omega (arith, p.2, rises span.net))) clocks.posts sound.posts;
      promises = all_weaker (IsPromised design clocks) (IsPromised design (with_out clocks net tick)) (λ bound p. (p.0, omega (arith, p.1, rises bound.net))) clocks.promises sound.promises;
    },
    record { outs = rises; ins = λ cluster other. omega arith },
  )
    where
      bounded : (other : ℕ) → out_clock (with_out clocks net tick) other ≤ design.horizon
      bounded other = go (out-cases clocks net tick other)
        where
          go : ((other ≡ net) × (out_clock (with_out clocks net tick) other ≡ tick)) ⊎ (out_clock (with_out clocks net tick) other ≡ out_clock clocks other) → out_clock (with_out clocks net tick) other ≤ design.horizon
          go (inl (e, f)) = omega arith
          go (inr f) = omega (arith, sound.outs_within other)

      rises : (other : ℕ) → out_clock clocks other ≤ out_clock (with_out clocks net tick) other
      rises other = go (out-cases clocks net tick other)
        where
          go : ((other ≡ net) × (out_clock (with_out clocks net tick) other ≡ tick)) ⊎ (out_clock (with_out clocks net tick) other ≡ out_clock clocks other) → out_clock clocks other ≤ out_clock (with_out clocks net tick) other
          go (inl (e, f)) = let same : out_clock clocks other ≡ out_clock clocks net = ap (out_clock clocks) e in omega arith
          go (inr f) = omega arith

  with_in-goes : (cluster net tick : ℕ) → in_clock clocks cluster net ≤ tick → tick ≤ out_clock clocks net → Goes design clustering clocks (with_in clocks cluster net tick)
  with_in-goes cluster net tick up within = (
    record {
      nets = sound.nets;
      clusters = length-set clocks.ins cluster (set (get_or clocks.ins cluster []) net tick) ∙ sound.clusters;
      rows = rows;
      outs_within = sound.outs_within;
      ins_within = bounded;
      posts = sound.posts;
      promises = sound.promises;
    },
    record { outs = λ other. omega arith; ins = rises },
  )
    where
      rows : (at : ℕ) → at < clustering.clusters → length (get_or (set clocks.ins cluster (set (get_or clocks.ins cluster []) net tick)) at []) ≡ nets_of design
      rows at h = go (set-cases clocks.ins cluster (set (get_or clocks.ins cluster []) net tick) at [])
        where
          go : ((at ≡ cluster) × (get_or (set clocks.ins cluster (set (get_or clocks.ins cluster []) net tick)) at [] ≡ set (get_or clocks.ins cluster []) net tick)) ⊎ (get_or (set clocks.ins cluster (set (get_or clocks.ins cluster []) net tick)) at [] ≡ get_or clocks.ins at []) → length (get_or (set clocks.ins cluster (set (get_or clocks.ins cluster []) net tick)) at []) ≡ nets_of design
          go (inl (e, f)) = ap length f ∙ length-set (get_or clocks.ins cluster []) net tick ∙ ap (λ c. length (get_or clocks.ins c [])) (sym e) ∙ sound.rows at h
          go (inr f) = ap length f ∙ sound.rows at h

      bounded : (at other : ℕ) → in_clock (with_in clocks cluster net tick) at other ≤ out_clock clocks other
      bounded at other = go (in-cases clocks cluster net tick at other)
        where
          go : ((at ≡ cluster) × (other ≡ net) × (in_clock (with_in clocks cluster net tick) at other ≡ tick)) ⊎ (in_clock (with_in clocks cluster net tick) at other ≡ in_clock clocks at other) → in_clock (with_in clocks cluster net tick) at other ≤ out_clock clocks other
          go (inl (e, f, g)) = let same : out_clock clocks other ≡ out_clock clocks net = ap (out_clock clocks) f in omega arith
          go (inr g) = omega (arith, sound.ins_within at other)

      rises : (at other : ℕ) → in_clock clocks at other ≤ in_clock (with_in clocks cluster net tick) at other
      rises at other = go (in-cases clocks cluster net tick at other)
        where
          go : ((at ≡ cluster) × (other ≡ net) × (in_clock (with_in clocks cluster net tick) at other ≡ tick)) ⊎ (in_clock (with_in clocks cluster net tick) at other ≡ in_clock clocks at other) → in_clock clocks at other ≤ in_clock (with_in clocks cluster net tick) at other
          go (inl (e, f, g)) = let same : in_clock clocks at other ≡ in_clock clocks cluster net = ap (λ c. in_clock clocks c other) e ∙ ap (in_clock clocks cluster) f in omega arith
          go (inr g) = omega arith

  abbrev moves : Outcome → Type 0
  moves outcome = Goes design clustering clocks outcome.clocks

  stepped-goes : (net tick : ℕ) → tick ≤ design.horizon → Goes design clustering clocks (stepped design clocks net tick).clocks
  stepped-goes net tick within =
      cond_both (ltb (out_clock clocks net) tick) _ _ moves
      (λ yes. with_out-goes net tick (omega (arith, ltb-true (out_clock clocks net) tick yes)) within)
      (λ no. stays)

  -- more was posted or promised, and no clock moved
  noted-goes : (posts : List Span) (promises : List Bound) → AllByRecursion (IsPosted design clocks) posts → AllByRecursion (IsPromised design clocks) promises
      → Goes design clustering clocks (record clocks { posts = posts; promises = promises })
  noted-goes posts promises posted promised = (
    record {
      nets = sound.nets;
      clusters = sound.clusters;
      rows = sound.rows;
      outs_within = sound.outs_within;
      ins_within = sound.ins_within;
      posts = posted;
      promises = promised;
    },
    record { outs = λ other. omega arith; ins = λ cluster other. omega arith },
  )

  posted-goes : (net from : ℕ) → net < nets_of design → Goes design clustering clocks (posted clocks net from).clocks
  posted-goes net from there =
      cond_both (ltb (out_clock clocks net) from) _ _ moves
      (λ above. stays)
      (λ low. cond_both (eqb from (out_clock clocks net)) _ _ moves
      (λ same. stays)
      (λ differ. noted-goes _ clocks.promises
      (all_push (IsPosted design clocks) clocks.posts _ sound.posts (there, (let ne : from ≢ out_clock clocks net = eqb-false from (out_clock clocks net) differ in omega (arith, ltb-false (out_clock clocks net) from low)), omega arith)) sound.promises))

  delivered-goes : (cluster : ℕ) (post : Option Span) → ((span : Span) → post ≡ Some span → IsPosted design clocks span) → Goes design clustering clocks (machine_delivered design clustering clocks cluster post).clocks
  delivered-goes cluster None was = stays
  delivered-goes cluster (Some span) was =
      cond_both (has_input design clustering cluster span.net) _ _ moves
      (λ reads. cond_both (ltb (in_clock clocks cluster span.net) span.from) _ _ moves
      (λ gap. stays)
      (λ meets. cond_both (leb span.to (in_clock clocks cluster span.net)) _ _ moves
      (λ old. stays)
      (λ new. with_in-goes cluster span.net span.to (omega (arith, leb-false span.to (in_clock clocks cluster span.net) new)) (was span refl).2)))
      (λ stranger. stays)

  promised-goes : (net : ℕ) → net < nets_of design → Goes design clustering clocks (machine_promised design clocks net).clocks
  promised-goes net there = noted-goes clocks.posts _ sound.posts (all_push (IsPromised design clocks) clocks.promises _ sound.promises (there, omega arith))

  looked-goes : (cluster : ℕ) (promise : Option Bound) → ((bound : Bound) → promise ≡ Some bound → IsPromised design clocks bound) → Goes design clustering clocks (looked design clustering clocks cluster promise).clocks
  looked-goes cluster None was = stays
  looked-goes cluster (Some bound) was =
      cond_both (has_input design clustering cluster bound.net) _ _ moves
      (λ reads. cond_both (leb bound.upto (in_clock clocks cluster bound.net)) _ _ moves
      (λ old. stays)
      (λ new. cond_both _ _ _ moves
      (λ equal. with_in-goes cluster bound.net bound.upto (omega (arith, leb-false bound.upto (in_clock clocks cluster bound.net) new)) (was bound refl).1)
      (λ ahead. stays)))
      (λ stranger. stays)

  pub play-goes : (event : Event) → Goes design clustering clocks (play design clustering clocks event).clocks
  play-goes (Step net) =
      cond_both (ltb net (nets_of design)) _ _ moves
      (λ there. stepped-goes net (machine_reach design clustering clocks net) (reach-within design clustering clocks net)) (λ not_there. stays)
  play-goes (Post net from) =
      cond_both (ltb net (nets_of design)) _ _ moves
      (λ there. posted-goes net from (ltb-true net (nets_of design) there)) (λ not_there. stays)
  play-goes (Deliver cluster number) =
      cond_both (ltb cluster clustering.clusters) _ _ moves
      (λ there. delivered-goes cluster (slice_get clocks.posts number) (λ span is. all_at (IsPosted design clocks) clocks.posts number span sound.posts is)) (λ not_there. stays)
  play-goes (Promises net) =
      cond_both (ltb net (nets_of design)) _ _ moves
      (λ there. promised-goes net (ltb-true net (nets_of design) there)) (λ not_there. stays)
  play-goes (Look cluster number) =
      cond_both (ltb cluster clustering.clusters) _ _ moves
      (λ there. looked-goes cluster (slice_get clocks.promises number) (λ bound is. all_at (IsPromised design clocks) clocks.promises number bound sound.promises is)) (λ not_there. stays)

-- ---- whole runs

pub start-sound : (design : Design) (clustering : Clustering) → IsSound design clustering (start design clustering)
start-sound design clustering = record {
  nets = length-replicate (nets_of design) 0;
  clusters = length-replicate clustering.clusters (replicate (nets_of design) 0);
  rows = λ cluster h. length-row clustering.clusters (replicate (nets_of design) 0) cluster h ∙ length-replicate (nets_of design) 0;
  outs_within = λ net. omega (arith, zeros (nets_of design) net);
  ins_within = λ cluster net. omega (arith, rows_of_zeros clustering.clusters (nets_of design) cluster net);
  posts = tt;
  promises = tt;
}

pub clocks_after-goes : (design : Design) (clustering : Clustering) (clocks : Clocks) (events : List Event) → IsSound design clustering clocks → Goes design clustering clocks (clocks_after design clustering clocks events)
clocks_after-goes design clustering clocks [] sound = (sound, NotBelow-same clocks)
clocks_after-goes design clustering clocks (event ∷ events) sound =
    let first : Goes design clustering clocks (play design clustering clocks event).clocks = play-goes design clustering clocks sound event in
    let rest : Goes design clustering (play design clustering clocks event).clocks (clocks_after design clustering (play design clustering clocks event).clocks events) = clocks_after-goes design clustering (play design clustering clocks event).clocks events first.0 in
    (rest.0, NotBelow-trans _ _ _ first.1 rest.1)

pub reachable-sound : (design : Design) (clustering : Clustering) (clocks : Clocks) → IsReachable design clustering clocks → IsSound design clustering clocks
reachable-sound design clustering clocks r =
    subst (IsSound design clustering) r.1 (clocks_after-goes design clustering (start design clustering) r.0 (start-sound design clustering)).0

pub reachable-within : (design : Design) (clustering : Clustering) (clocks : Clocks) → IsReachable design clustering clocks → IsWithin design clocks
reachable-within design clustering clocks r =
    let sound : IsSound design clustering clocks = reachable-sound design clustering clocks r in
    record { outs = sound.outs_within; ins = sound.ins_within }

-- ---- what can come about goes on so

pub clocks_after-append : (design : Design) (clustering : Clustering) (clocks : Clocks) (first second : List Event) → clocks_after design clustering clocks (first ++ second) ≡ clocks_after design clustering (clocks_after design clustering clocks first) second
clocks_after-append design clustering clocks [] second = refl
clocks_after-append design clustering clocks (event ∷ first) second = clocks_after-append design clustering (play design clustering clocks event).clocks first second

-- ---- what is sent is exact, and what is promised is right

pub posts-exact : (design : Design) (clustering : Clustering) (clocks : Clocks) → IsSound design clustering clocks → AllByRecursion (λ span. IsExactIn design (piece_of design span)) clocks.posts
posts-exact design clustering clocks sound =
    all_weaker (IsPosted design clocks) (λ span. IsExactIn design (piece_of design span)) (λ span p. record {
      net = p.0;
      exact = record { not_empty = p.1; within = omega (arith, p.2, sound.outs_within span.net); changes = refl };
    }) clocks.posts sound.posts

pub promises-right : (design : Design) (clustering : Clustering) (clocks : Clocks) → IsSound design clustering clocks → AllByRecursion (λ bound. IsRightIn design (promise_of design bound)) clocks.promises
promises-right design clustering clocks sound =
    all_weaker (IsPromised design clocks) (λ bound. IsRightIn design (promise_of design bound)) (λ bound p. record {
      net = p.0;
      within = omega (arith, p.1, sound.outs_within bound.net);
      count = refl;
    }) clocks.promises sound.promises
