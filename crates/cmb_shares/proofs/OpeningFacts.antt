-- What a run begins with.
use Rattle.std.proofs.Common.{◌≡◌, ◌∙◌, inl, inr, ℕ, zero, suc, ◌<◌, ◌++◌, ◌∷◌, [], Bool, true, false, List, Result, Ok, length, map, get_or, ap, refl, subst, sym, arith}
use Rattle.std.specs.Prelude.{All, IfOk, IfSome, Option, Some, option_map, slice_get}
use Rattle.std.proofs.lemmas.Bool.{false≢true}
use Rattle.std.proofs.lemmas.List.{append_assoc, get_or_default, get_or-map, length-map, map-append}
use Rattle.std.proofs.lemmas.List.Elements.{All-contains}
use Rattle.std.proofs.lemmas.Option.{get_or_from_slice_get, same_Some, slice_get-map, slice_get_within}
use Rattle.cmb_netlist.specs.Netlist.{driver_of, pins_of}
use Rattle.cmb_design_model.specs.Design.{Design}
use Rattle.cmb_design_model.specs.Exact.{nets_of}
use Rattle.cmb_design_model.specs.Nets.{is_flop}
use Rattle.cmb_design_model.specs.Timing.{delay}
use Rattle.cmb_dump.specs.Shown.{Shown}
use Rattle.cmb_engine.specs.Crossings.{AreWithinLookahead, IsCrossing}
use Rattle.cmb_engine.specs.Shares.{IsDriven, IsGiven}
use Rattle.cmb_engine.specs.Windows.{HaveTicks, Windows}
use Rattle.cmb_graph_partition.specs.Partitions.{Crosses, Drives, IsPartition, Knows}
use Rattle.cmb_graph_partition.specs.declared.shares.Partition.{Partition}
use Rattle.cmb_graph_partition.specs.declared.shares.Share.{Share}
use Rattle.cmb_shares.specs.Inner.Opened.{run_of}
use Rattle.cmb_shares.specs.Inner.Runs.{IsRun, Owns}
use Rattle.cmb_shares.proofs.HeardFacts.{set_within}

-- what holds of each result that is one holds of what they have
pub each-ok : {X E : Type 0} (P : ℕ → X → Type 0) (made : List (Result X E)) (all : List X) → made ≡ map Ok all
    → ((k : ℕ) (d : Result X E) → k < length made → IfOk (get_or made k d) (P k)) → (k : ℕ) (e : X) → k < length all → P k (get_or all k e)
each-ok {X = X} {E = E} P made all is each k e h =
    let here : get_or made k (Ok e) ≡ Ok (get_or all k e) = ap (λ l. get_or l k (Ok e)) is ∙ get_or-map Ok all k e (Ok e) h in
    subst (λ r. IfOk r (P k)) here (each k (Ok e) (omega (arith, h, ap length is, length-map {B = Result X E} all Ok)))

-- results that are, one by one, one more
pub ok-more : {X E : Type 0} (made rest more : List (Result X E)) (all : List X) (result : Result X E) (one : X) → made ≡ map Ok all ++ rest → rest ≡ result ∷ more → result ≡ Ok one
    → made ≡ map Ok (all ++ one ∷ []) ++ more
ok-more {X = X} {E = E} made rest more all result one were first is =
    were
    ∙ ap (λ (l : List (Result X E)). map Ok all ++ l) (first ∙ ap (λ (r : Result X E). r ∷ more) is)
    ∙ sym (append_assoc (map Ok all) (Ok one ∷ []) more)
    ∙ ap (λ (l : List (Result X E)). l ++ more) (sym (map-append Ok all (one ∷ [])))

abbrev marks : Share → List Bool
marks s = s.driven.items

-- the marks of the share of a number
pub marks-at : (shares : List Share) (number : ℕ) (s : Share) → slice_get shares number ≡ Some s → get_or (map marks shares) number [] ≡ s.driven.items
marks-at shares number s at = get_or_from_slice_get (map marks shares) number (marks s) [] (slice_get-map marks shares number ∙ ap (λ (o : Option Share). option_map marks o) at)

some-at : (shares : List Share) (number : ℕ) → number < length shares → (s : Share) × (slice_get shares number ≡ Some s)
some-at [] number within = absurd (omega (arith, within))
some-at (s ∷ more) zero within = (s, refl)
some-at (s ∷ more) (suc number) within = some-at more number (omega (arith, within))

module _ (design : Design) (shown : Shown) (partition : Partition) (windows : Windows) (is : IsPartition design.netlist partition) (ahead : AreWithinLookahead design partition.crossing.items windows)
    (soon : (net : ℕ) → IsCrossing design partition.crossing.items net → delay design net 1 < windows.width) (horizon : windows.horizon ≡ design.horizon) (narrow : windows.width < 63) (ticks : HaveTicks windows) where
  count : length (map marks partition.shares.items) ≡ length partition.shares.items
  count = length-map partition.shares.items marks

  -- each owner is a share
  below : All (λ owner. owner < length (map marks partition.shares.items)) partition.owners.items
  below k d h =
      let owned = is.owned k (omega (arith, h, is.nets)) in
      let read = get_or_default partition.owners.items k 0 d h in
      let within = slice_get_within partition.shares.items (get_or partition.owners.items k 0) owned.0 owned.1 in
      omega (arith, read, within, count)

  module _ (number : ℕ) (within : number < length (map marks partition.shares.items)) where
    found : (s : Share) × (slice_get partition.shares.items number ≡ Some s)
    found = some-at partition.shares.items number (omega (arith, within, count))

    at : get_or (map marks partition.shares.items) number [] ≡ found.0.driven.items
    at = marks-at partition.shares.items number found.0 found.1

    long : length (get_or (map marks partition.shares.items) number []) ≡ nets_of design
    long =
        let P : Share → Type 0 = λ s. length s.driven.items ≡ nets_of design in
        ap length at ∙ subst P (get_or_from_slice_get partition.shares.items number found.0 found.0 found.1) (is.marks number found.0 (omega (arith, within, count)))

    -- it drives what it owns
    drives : (net : ℕ) → Owns (run_of (record { design = design; shown = shown }) partition windows) number net → IsDriven (get_or (map marks partition.shares.items) number []) net
    drives net owns =
        let owned = is.owned net (omega (arith, owns.0, is.nets)) in
        let Q : ℕ → Type 0 = λ n. slice_get partition.shares.items n ≡ Some owned.0 in
        let e : slice_get partition.shares.items number ≡ Some owned.0 = subst Q owns.1 owned.1 in
        let P : Share → Type 0 = λ s. Drives s net in
        subst (λ (l : List Bool). IsDriven l net) (sym at) (subst P (same_Some owned.0 found.0 (sym e ∙ found.1)) owned.2)

    -- what it is given crosses
    knows : (net : ℕ) → IsGiven design (get_or (map marks partition.shares.items) number []) net → IsCrossing design partition.crossing.items net
    knows net given =
        let driving : Drives found.0 given.reader = subst (λ (l : List Bool). IsDriven l given.reader) at given.reader_driven in
        let reader = set_within (get_or (map marks partition.shares.items) number []) given.reader given.reader_driven in
        let Q : Option Share → Type 0 = λ o. IfSome o (λ (s : Share). Drives s given.reader) in
        let all = is.known number (omega (arith, within, count)) given.reader (omega (arith, reader, long)) (subst Q (sym found.1) driving) in
        by (All-contains (Knows partition number) (pins_of (driver_of design.netlist given.reader)) net all given.read)
      where
        flop : Crosses partition net → is_flop (driver_of design.netlist net) ≡ true
        flop crosses =
            let inside = set_within partition.crossing.items net crosses in
            let sampled = is.sampled net (omega (arith, inside, is.crossed)) crosses in
            ap is_flop sampled.1

        by : Knows partition number net → IsCrossing design partition.crossing.items net
        by (inl driven) =
            let P : Option Share → Type 0 = λ o. IfSome o (λ (s : Share). Drives s net) in
            let marked : Drives found.0 net = subst P found.1 driven in
            absurd (false≢true (sym given.undriven ∙ ap (λ l. get_or l net false) at ∙ marked))
        by (inr crosses) = (crosses, flop crosses)

  pub is-run : IsRun (run_of (record { design = design; shown = shown }) partition windows)
  is-run = record {
    nets = is.nets;
    crossed = is.crossed ∙ sym is.nets;
    below = below;
    marks = long;
    owned = λ number net within. drives number within net;
    known = λ number net within. knows number within net;
    ahead = ahead;
    soon = soon;
    horizon = horizon;
    narrow = omega (arith, narrow);
    each = ticks;
  }
