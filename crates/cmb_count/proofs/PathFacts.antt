-- Paths, in turn and over again, and components of gates.
use Rattle.std.proofs.Common.{◌≡◌, ◌⊎◌, inl, inr, ℕ, zero, suc, ◌+◌, ◌<◌, ◌≤◌, Bool, true, false, List, length, get_or, sym, ap, subst, ◌∙◌, arith}
use Rattle.std.specs.Prelude.{Contains}
use Rattle.std.proofs.lemmas.Bool.{cases_eq, cases_lt}
use Rattle.std.proofs.lemmas.List.{get_or_default, get_or_past}
use Rattle.std.proofs.lemmas.List.Elements.{All-get_or, Contains-get_or}
use Rattle.cmb_netlist.specs.Netlist.{Netlist, IsNetlist, driver_of}
use Rattle.cmb_netlist.specs.declared.netlist.Driver.{Driver}
use Rattle.cmb_netlist.specs.declared.netlist.Driver.TheVariants.{Input}
use Rattle.cmb_design_model.specs.Design.{Design}
use Rattle.cmb_design_model.specs.Timing.{delay}
use Rattle.cmb_graph.proofs.BeginFacts.{targets_inside}
use Rattle.cmb_design_model.proofs.SampleFacts.{delay-positive}
use Rattle.cmb_graph.specs.Loops.{AreLoops, AreStrongComponents, IsInLoop, Reaches, Walk, one, more, targets, targets_of}
use Rattle.cmb_graph.specs.declared.steps.Steps.TheVariants as steps
use Rattle.cmb_graph.proofs.WalkFacts.{reach_from, reach_to, walk_on}
use Rattle.cmb_count.specs.Inner.Arrivals.{IsReached, endless}
use Rattle.cmb_count.specs.Paths.{Arrives, Path, here, on, operands}
use Rattle.cmb_count.specs.declared.arrivals.Arrival.{Arrival}
use Rattle.cmb_count.specs.declared.arrivals.Arrival.TheVariants.{Never, At, Unbounded}
use Rattle.cmb_count.specs.declared.paths.Between.{Between}

-- ---- paths

pub path_on : (design : Design) (a b c s t : ℕ) → Path design a b s → Path design b c t → Path design a c (s + t)
path_on design a b c s t p here = let e : s ≡ s + 0 = omega arith in subst (λ (n : ℕ). Path design a b n) e p
path_on design a b c s t p (on {ticks} gate k within q) =
    let e : (s + ticks) + delay design gate (k + 1) ≡ s + (ticks + delay design gate (k + 1)) = omega arith in
    subst (λ (n : ℕ). Path design a gate n) e (on gate k within (path_on design a b _ s ticks p q))

-- a walk from a gate to what it reads is a path the other way
pub path_back : (design : Design) (a b : ℕ) → Walk (targets design.netlist steps.Gates) a b → (t : ℕ) × (1 ≤ t) × Path design b a t
path_back design a b (one h) =
    let is : get_or (operands design.netlist a) h.0 0 ≡ b = get_or_default (operands design.netlist a) h.0 0 b h.1 ∙ h.2 in
    let d = delay-positive design a (h.0 + 1) in
    (0 + delay design a (h.0 + 1), omega (arith, d), on a h.0 h.1 (subst (λ (x : ℕ). Path design b x 0) (sym is) here))
path_back design a b (more {b = m} h w) =
    let rest = path_back design m b w in
    let is : get_or (operands design.netlist a) h.0 0 ≡ m = get_or_default (operands design.netlist a) h.0 0 m h.1 ∙ h.2 in
    let d = delay-positive design a (h.0 + 1) in
    (rest.0 + delay design a (h.0 + 1), omega (arith, d), on a h.0 h.1 (subst (λ (x : ℕ). Path design b x rest.0) (sym is) rest.2))

pub arrive_on : (design : Design) (between : Between) (net other t s : ℕ) → Arrives design between net t → Path design net other s → Arrives design between other (t + s)
arrive_on design between net other t s a p = record {
  from = a.from;
  after = a.after + s;
  within = a.within;
  origin = a.origin;
  path = path_on design a.from net other a.after s a.path p;
  sum = omega (arith, a.sum);
}

-- round and round a loop
pumped : (design : Design) (between : Between) (net d t : ℕ) → 1 ≤ d → Path design net net d → Arrives design between net t
    → (n : ℕ) → (u : ℕ) × (n ≤ u) × Arrives design between net u
pumped design between net d t low p a zero = (t, omega arith, a)
pumped design between net d t low p a (suc n) =
    let r = pumped design between net d t low p a n in
    let l : n ≤ r.0 = r.1 in
    (r.0 + d, omega arith, arrive_on design between net net r.0 d r.2 p)

ever : (design : Design) (between : Between) (x m t : ℕ) → IsInLoop design.netlist steps.Gates x → Reaches (targets design.netlist steps.Gates) m x → Arrives design between x t
    → (n : ℕ) → (u : ℕ) × (n ≤ u) × Arrives design between m u
ever design between x m t loop (inl e) a n =
    let p = path_back design x x loop in
    subst (λ (k : ℕ). (u : ℕ) × (n ≤ u) × Arrives design between k u) (sym e) (pumped design between x p.0 t p.1 p.2 a n)
ever design between x m t loop (inr w) a n =
    let p = path_back design x x loop in
    let r = pumped design between x p.0 t p.1 p.2 a n in
    let q = path_back design m x w in
    let l : n ≤ r.0 = r.1 in
    (r.0 + q.0, omega arith, arrive_on design between x m r.0 q.0 r.2 q.2)

-- what comes to a net of a loop comes to each of them, ever later
pub reached_endless : (design : Design) (between : Between) (x m : ℕ) (arrival : Arrival) → IsInLoop design.netlist steps.Gates x → Reaches (targets design.netlist steps.Gates) m x
    → IsReached (Arrives design between x) arrival → IsReached (Arrives design between m) (endless arrival)
reached_endless design between x m Never loop r a = tt
reached_endless design between x m (At t) loop r a = ever design between x m t loop r a
reached_endless design between x m Unbounded loop r a = let first = a 0 in ever design between x m first.0 loop r first.2

-- ---- operands

-- what has operands is a net
pub gate_within : (netlist : Netlist) (gate k : ℕ) → IsNetlist netlist → k < length (operands netlist gate) → gate < length netlist.names
gate_within netlist gate k is within = by (cases_lt gate (length netlist.names))
  where
    by : (gate < length netlist.names) ⊎ (length netlist.names ≤ gate) → gate < length netlist.names
    by (inl l) = l
    by (inr l) =
        let none : driver_of netlist gate ≡ Input = get_or_past netlist.drivers gate Input (omega (arith, l, is.paired)) in
        let short : length (operands netlist gate) ≡ 0 = ap (λ (d : Driver). length (targets_of steps.Gates d)) none in
        absurd (omega (arith, within, short))

pub operand_within : (netlist : Netlist) (gate k : ℕ) → IsNetlist netlist → k < length (operands netlist gate) → get_or (operands netlist gate) k 0 < length netlist.names
operand_within netlist gate k is within = All-get_or (λ net. net < length netlist.names) (operands netlist gate) k 0 within (targets_inside netlist steps.Gates gate is)

-- ---- components

module _ (netlist : Netlist) (numbers : List ℕ) (loops : List Bool) (parts : AreStrongComponents netlist steps.Gates numbers) (marks : AreLoops netlist steps.Gates loops) where
  -- a net that is in no loop is its component
  pub alone : (m x : ℕ) → m < length netlist.names → x < length netlist.names → get_or numbers m 0 ≡ get_or numbers x 0 → get_or loops x false ≡ false → m ≡ x
  alone m x low within same none = by (parts.together m x low within same) (parts.together x m within low (sym same))
    where
      by : Reaches (targets netlist steps.Gates) m x → Reaches (targets netlist steps.Gates) x m → m ≡ x
      by (inl e) r = e
      by (inr w) (inl e) = sym e
      by (inr w) (inr v) = let marked = marks.all x within (walk_on (targets netlist steps.Gates) x m x v w) in absurd cc

  -- all nets of a component are in loops, or none
  pub together : (m x : ℕ) → m < length netlist.names → x < length netlist.names → get_or numbers m 0 ≡ get_or numbers x 0 → get_or loops m false ≡ true → get_or loops x false ≡ true
  together m x low within same marked =
      let next = targets netlist steps.Gates in
      let w = reach_from next x m m (parts.together x m within low (sym same)) (marks.loops m low marked) in
      marks.all x within (reach_to next x m x w (parts.together m x low within same))

  -- a net that is in no loop reads lower numbers
  pub lower : (is : IsNetlist netlist) (x k : ℕ) → k < length (operands netlist x) → get_or loops x false ≡ false → get_or numbers (get_or (operands netlist x) k 0) 0 < get_or numbers x 0
  lower is x k within none = by (cases_eq (get_or numbers operand 0) (get_or numbers x 0))
    where
      operand : ℕ
      operand = get_or (operands netlist x) k 0

      low : x < length netlist.names
      low = gate_within netlist x k is within

      falls : get_or numbers operand 0 ≤ get_or numbers x 0
      falls = All-get_or (λ target. get_or numbers target 0 ≤ get_or numbers x 0) (operands netlist x) k 0 within (parts.falls x low)

      step : Contains (operands netlist x) operand
      step = Contains-get_or (operands netlist x) k 0 within

      walk : Reaches (targets netlist steps.Gates) operand x → IsInLoop netlist steps.Gates x
      walk (inl e) = one (subst (Contains (operands netlist x)) e step)
      walk (inr w) = more step w

      by : (get_or numbers operand 0 ≡ get_or numbers x 0) ⊎ (get_or numbers operand 0 ≡ get_or numbers x 0 → ⊥) → get_or numbers operand 0 < get_or numbers x 0
      by (inl same) = let marked = marks.all x low (walk (parts.together operand x (operand_within netlist x k is within) low same)) in absurd cc
      by (inr ne) = let f = falls in omega (arith, ne)
