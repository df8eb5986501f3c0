-- A search begins.
use Rattle.std.proofs.Common.{◌≡◌, ◌⊎◌, inl, inr, ℕ, ◌<◌, ◌≤◌, false, List, [], length, get_or, replicate, sym, ap, ◌∙◌, arith}
use Rattle.std.specs.Prelude.{All}
use Rattle.std.proofs.lemmas.Bool.{cases_lt}
use Rattle.std.proofs.lemmas.List.{get_or_past, get_or-replicate, length-replicate}
use Rattle.std.proofs.lemmas.List.Elements.{All-nil}
use Rattle.std.proofs.lemmas.List.Sums.{count_by-le-length}
use Rattle.cmb_netlist.proofs.Wired.{pins-below}
use Rattle.cmb_netlist.specs.Netlist.{Netlist, IsNetlist, driver_of, pins_of}
use Rattle.cmb_netlist.specs.declared.netlist.Driver.{Driver}
use Rattle.cmb_netlist.specs.declared.netlist.Driver.TheVariants.{Input, Gate, Flop}
use Rattle.cmb_graph.specs.Loops.{targets, targets_of}
use Rattle.cmb_graph.specs.Inner.Search.{IsBegun, IsSearch, IsUnderWay, is_new}
use Rattle.cmb_graph.specs.declared.steps.Steps.{Steps}
use Rattle.cmb_graph.specs.declared.steps.Steps.TheVariants as kind
use Rattle.cmb_graph.specs.declared.search.Search.{Search}
use Rattle.cmb_graph.specs.declared.search.Seen.TheVariants.{New}
use Rattle.cmb_graph.proofs.NumberFacts.{numbered_begun}

-- what all elements are, one past the end is too
same_all : {X : Type 0} (n x : ℕ) (v : X) → get_or (replicate n v) x v ≡ v
same_all n x v = by (cases_lt x n)
  where
    by : (x < n) ⊎ (n ≤ x) → get_or (replicate n v) x v ≡ v
    by (inl l) = get_or-replicate n x v v l
    by (inr g) = get_or_past (replicate n v) x v (omega (arith, length-replicate n v))

nothing : (next : ℕ → List ℕ) (n : ℕ) → IsSearch next (replicate n New) (replicate n false) [] [] []
nothing next n = record {
  long = length-replicate n false ∙ sym (length-replicate n New);
  listed = λ place h. absurd (omega arith);
  placed = λ net place e. let new = same_all n net New in absurd cc;
  forth = λ low high le h. absurd (omega arith);
  back = λ low high le h part. absurd (omega arith);
  closed = λ net target e step. let new = same_all n net New in absurd cc;
  loops = λ net e. let none = same_all n net false in absurd cc;
  all = λ net e walk. let new = same_all n net New in absurd cc;
  steps = λ place target h step. absurd (omega arith);
  frames_rise = λ i j d lt h. absurd (omega arith);
  frames_within = λ k d h. absurd (omega arith);
  starts_rise = λ i j d lt h. absurd (omega arith);
  starts_left = λ start there. let l : there.0 < 0 = there.1 in absurd (omega arith);
  first = λ some. absurd (omega arith);
}

-- steps lead to nets
inside : (nets : ℕ) (steps : Steps) (driver : Driver) → All (λ net. net < nets) (pins_of driver) → All (λ net. net < nets) (targets_of steps driver)
inside nets kind.All driver below = below
inside nets kind.Gates Input below = below
inside nets kind.Gates (Gate k operands) below = below
inside nets kind.Gates (Flop source) below = All-nil (λ net. net < nets)

pub targets_inside : (netlist : Netlist) (steps : Steps) (net : ℕ) → IsNetlist netlist → All (λ target. target < length netlist.names) (targets netlist steps net)
targets_inside netlist steps net lawful = inside (length netlist.names) steps (driver_of netlist net) (pins-below netlist lawful net)

pub begun : (netlist : Netlist) (steps : Steps) (search : Search) → IsNetlist netlist → IsBegun (length netlist.names) search → IsUnderWay netlist steps search []
begun netlist steps search lawful is = record {
  inside = λ net. targets_inside netlist steps net lawful;
  sized = ap length is.seen ∙ length-replicate (length netlist.names) New;
  is = rw (is.seen, is.marks, is.path, is.starts) (nothing (targets netlist steps) (length netlist.names));
  numbered = rw (is.seen, is.numbers, is.done) (numbered_begun (targets netlist steps) (length netlist.names) (λ net. same_all (length netlist.names) net New));
  room =
      let few = count_by-le-length is_new (replicate (length netlist.names) New) in
      rw (is.seen, is.path, is.done) (omega (arith, few, length-replicate (length netlist.names) New));
}
