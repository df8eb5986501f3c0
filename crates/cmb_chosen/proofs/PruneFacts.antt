-- The part of a design that chosen nets need has no other nets.
use Rattle.std.proofs.Common.{◌≡◌, ℕ, ◌+◌, ◌<◌, ◌≤◌, ◌⊎◌, inl, inr, List, length, map, get_or, refl, sym, ap, subst, ◌∙◌, arith}
use Rattle.std.specs.Prelude.{All, Contains}
use Rattle.std.specs.List.Sorted.{IsStrictlyIncreasing}
use Rattle.std.proofs.lemmas.Bool.{cases_lt}
use Rattle.std.proofs.lemmas.List.{get_or_default, get_or-map, length-map}
use Rattle.std.proofs.lemmas.List.Elements.{All-map}
use Rattle.cmb_netlist.specs.declared.netlist.Driver.{Driver}
use Rattle.cmb_netlist.specs.declared.netlist.Driver.TheVariants.{Input, Gate, Flop}
use Rattle.cmb_netlist.specs.Netlist.{Netlist, IsNetlist, driver_of, pins_of}
use Rattle.cmb_cone.specs.Closed.{IsClosed, IsClosure, asked_by}
use Rattle.cmb_cone.specs.Restriction.{IsPart, with_nets}
use Rattle.cmb_cone.proofs.PartFacts.{rising_apart}
use Rattle.cmb_cone.proofs.ValueFacts.{driver_read, names_long}
use Rattle.cmb_chosen.specs.Parts.{IsPruned}

pins-with : (f : ℕ → ℕ) (driver : Driver) → pins_of (with_nets f driver) ≡ map f (pins_of driver)
pins-with f Input = refl
pins-with f (Gate kind operands) = refl
pins-with f (Flop source) = refl

-- rising numbers differ
rising-same : (nets : List ℕ) (i k : ℕ) → IsStrictlyIncreasing nets → i < length nets → k < length nets → get_or nets i 0 ≡ get_or nets k 0 → i ≡ k
rising-same nets i k rising early late same = by (cases_lt i k) (cases_lt k i)
  where
    by : (i < k) ⊎ (k ≤ i) → (k < i) ⊎ (i ≤ k) → i ≡ k
    by (inl l) other = absurd (omega (arith, same, rising_apart nets rising i k l late))
    by (inr l) (inl r) = absurd (omega (arith, same, rising_apart nets rising k i r early))
    by (inr l) (inr r) = omega (arith, l, r)

module _ (whole part : Netlist) (nets : List ℕ) (closed : IsClosed whole nets) (is : IsPart whole nets part) (sound : IsNetlist part) where
  -- the net of the whole that a net of the part is
  abbrev whole-net : ℕ → ℕ
  whole-net net = get_or nets net 0

  whole-contains : (others : List ℕ) (net : ℕ) → Contains others net → Contains (map whole-net others) (whole-net net)
  whole-contains others net there =
      (there.0, omega (arith, there.1, length-map others whole-net), get_or-map whole-net others there.0 net (whole-net net) there.1 ∙ ap whole-net there.2)

  inside : (others : List ℕ) → IsClosed part others → (k d : ℕ) → k < length others → get_or others k d < length nets
  inside others lawful k d below = omega (arith, lawful.within k d below, names_long whole part nets is)

  asked-whole : (net : ℕ) → net < length nets → asked_by whole (whole-net net) ≡ map whole-net (asked_by part net)
  asked-whole net below = ap pins_of (sym (driver_read whole part nets is sound net below)) ∙ pins-with whole-net (driver_of part net)

  -- a closed set of the part is one of the whole
  whole-closed : (others : List ℕ) → IsClosed part others → IsClosed whole (map whole-net others)
  whole-closed others lawful = record {
    rising = λ k below.
        let few : k + 1 < length others = omega (arith, below, length-map others whole-net) in
        let here : get_or (map whole-net others) k 0 ≡ whole-net (get_or others k 0) = get_or-map whole-net others k 0 0 (omega (arith, few)) in
        let next : get_or (map whole-net others) (k + 1) 0 ≡ whole-net (get_or others (k + 1) 0) = get_or-map whole-net others (k + 1) 0 0 few in
        let less : whole-net (get_or others k 0) < whole-net (get_or others (k + 1) 0) =
        rising_apart nets closed.rising (get_or others k 0) (get_or others (k + 1) 0) (lawful.rising k few) (inside others lawful (k + 1) 0 few) in
        omega (arith, here, next, less);
    within = All-map (λ net. net < length whole.names) whole-net others (λ k d below. closed.within (get_or others k d) 0 (inside others lawful k d below));
    closed = All-map (λ net. All (Contains (map whole-net others)) (asked_by whole net)) whole-net others (λ k d below.
        subst (All (Contains (map whole-net others))) (sym (asked-whole (get_or others k d) (inside others lawful k d below)))
        (All-map (Contains (map whole-net others)) whole-net (asked_by part (get_or others k d)) (λ j e small.
        whole-contains others (get_or (asked_by part (get_or others k d)) j e) (lawful.closed k d below j e small))));
  }

  part-contains : (others : List ℕ) (net : ℕ) → IsClosed part others → net < length nets → Contains (map whole-net others) (whole-net net) → Contains others net
  part-contains others net lawful below there =
      let k : ℕ = there.0 in
      let small : k < length others = omega (arith, there.1, length-map others whole-net) in
      let same : whole-net (get_or others k 0) ≡ whole-net net = sym (get_or-map whole-net others k 0 (whole-net net) small) ∙ there.2 in
      (k, small, get_or_default others k net 0 small ∙ rising-same nets (get_or others k 0) net closed.rising (inside others lawful k 0 small) below same)

  pub part-pruned : (chosen places : List ℕ) → IsClosure whole chosen nets → map whole-net places ≡ chosen → IsPruned part places
  part-pruned chosen places least same others lawful has net below =
      let few : net < length nets = omega (arith, below, names_long whole part nets is) in
      part-contains others net lawful few
      (least.needed (map whole-net others) (whole-closed others lawful)
      (subst (All (Contains (map whole-net others))) same
      (All-map (Contains (map whole-net others)) whole-net places (λ k d small. whole-contains others (get_or places k d) (has k d small)))) net 0 few)
