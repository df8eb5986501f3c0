-- The longest path to one net more.
use Rattle.std.proofs.Common.{◌≡◌, ◌⊎◌, inl, inr, ◌∙◌, ℕ, ◌+◌, ◌<◌, ◌≤◌, true, length, refl, ap, sym, subst, arith}
use Rattle.std.proofs.lemmas.Bool.{cases_lt}
use Rattle.std.proofs.lemmas.List.{get_or_past}
use Rattle.cmb_netlist.specs.Netlist.{Netlist, IsNetlist, driver_of, IsWired}
use Rattle.cmb_netlist.specs.declared.netlist.Driver.{Driver}
use Rattle.cmb_netlist.specs.declared.netlist.Driver.TheVariants.{Input, Gate, Flop}
use Rattle.cmb_design_model.specs.Design.{Design}
use Rattle.cmb_netlist.proofs.Wired.{driver-wired}
use Rattle.cmb_count.specs.Inner.Arrivals.{Covers, IsReached}
use Rattle.cmb_count.specs.Inner.LongestPaths.{AreFound, AreLatest, Bounds, IsLongestSoFar, IsOutput, is_sampled, longest_at, time_at}
use Rattle.cmb_count.specs.Paths.{Arrives, IsEnd, IsLongest, Settles}
use Rattle.cmb_count.specs.declared.arrivals.Arrival.{Arrival}
use Rattle.cmb_count.specs.declared.arrivals.Arrival.TheVariants.{Never, At, Unbounded as Ever}
use Rattle.cmb_count.specs.declared.arrivals.Arrivals.{Arrivals}
use Rattle.cmb_count.specs.declared.paths.Between.{Between}
use Rattle.cmb_count.specs.declared.paths.Between.TheVariants.{All, Clocked, InputsTo, OthersTo}
use Rattle.cmb_count.specs.declared.paths.Longest.{Longest}
use Rattle.cmb_count.specs.declared.paths.Longest.TheVariants.{NoPath, Path as To, Unbounded}

found_at : (design : Design) (paths : Between) (x : ℕ) (arrival : Arrival) → IsEnd paths design x → IsReached (Arrives design paths x) arrival → AreFound design paths (longest_at x arrival)
found_at design paths x Never end h = tt
found_at design paths x (At t) end h = (end, h)
found_at design paths x Ever end h = λ n. let some = h n in (x, some.0, some.1, (end, some.2))

bounds_at : (x : ℕ) (arrival : Arrival) (t : ℕ) → Covers arrival t → Bounds (longest_at x arrival) t
bounds_at x Never t h = h
bounds_at x (At u) t h = h
bounds_at x Ever t h = tt

pub longest_more : (design : Design) (paths : Between) (arrivals : Arrivals) (x : ℕ) (Old New : ℕ → Type 0) (old come new : Longest) → AreLatest design paths arrivals
    → x < length design.netlist.names → IsEnd paths design x → come ≡ longest_at x (time_at arrivals x) → ((net : ℕ) → New net → Old net ⊎ (x ≡ net))
    → ((t : ℕ) → Bounds old t → Bounds new t) → ((t : ℕ) → Bounds come t → Bounds new t) → (new ≡ old) ⊎ (new ≡ come)
    → IsLongestSoFar design paths arrivals Old old → IsLongestSoFar design paths arrivals New new
longest_more design paths arrivals x Old New old come new are low end is cases one other either so_far = record {
  found = found either;
  bounds = λ net t here covers. bound net t (cases net here) covers;
}
  where
    found : (new ≡ old) ⊎ (new ≡ come) → AreFound design paths new
    found (inl e) = subst (AreFound design paths) (sym e) so_far.found
    found (inr e) = subst (AreFound design paths) (sym (e ∙ is)) (found_at design paths x (time_at arrivals x) end (are.latest x low).0)

    bound : (net t : ℕ) → Old net ⊎ (x ≡ net) → Covers (time_at arrivals net) t → Bounds new t
    bound net t (inl h) covers = one t (so_far.bounds net t h covers)
    bound net t (inr e) covers =
        other t (subst (λ (l : Longest). Bounds l t) (sym is) (bounds_at x (time_at arrivals x) t (subst (λ (k : ℕ). Covers (time_at arrivals k) t) (sym e) covers)))

pub longest_same : (design : Design) (paths : Between) (arrivals : Arrivals) (Old New : ℕ → Type 0) (longest : Longest) → ((net : ℕ) → New net → Old net)
    → IsLongestSoFar design paths arrivals Old longest → IsLongestSoFar design paths arrivals New longest
longest_same design paths arrivals Old New longest cases so_far = record { found = so_far.found; bounds = λ net t here covers. so_far.bounds net t (cases net here) covers }

-- none of no nets
pub longest_none : (design : Design) (paths : Between) (arrivals : Arrivals) (New : ℕ → Type 0) → ((net : ℕ) → New net → ⊥) → IsLongestSoFar design paths arrivals New NoPath
longest_none design paths arrivals New none = record { found = tt; bounds = λ net t here covers. absurd (none net here) }

-- ---- data of flip-flops

-- an output, or data of one of the first flip-flops
abbrev pub IsEndBelow : Between → Design → ℕ → ℕ → Type 0
IsEndBelow paths design k net = IsOutput paths design net ⊎ ((flop : ℕ) × (flop < k) × (driver_of design.netlist flop ≡ Flop net) × (is_sampled paths design flop ≡ true))

pub end_none : (paths : Between) (design : Design) (net : ℕ) → IsEndBelow paths design 0 net → IsOutput paths design net
end_none paths design net (inl h) = h
end_none paths design net (inr h) = let l : h.0 < 0 = h.1 in absurd (omega (arith, l))

flop_of : Driver → ℕ → ℕ
flop_of Input d = d
flop_of (Gate kind operands) d = d
flop_of (Flop source) d = source

pub end_more : (paths : Between) (design : Design) (k x net : ℕ) → driver_of design.netlist k ≡ Flop x → IsEndBelow paths design (k + 1) net → IsEndBelow paths design k net ⊎ (x ≡ net)
end_more paths design k x net is (inl h) = inl (inl h)
end_more paths design k x net is (inr h) = by (cases_lt h.0 k)
  where
    by : (h.0 < k) ⊎ (k ≤ h.0) → IsEndBelow paths design k net ⊎ (x ≡ net)
    by (inl l) = inl (inr (h.0, l, h.2, h.3))
    by (inr g) =
        let l : h.0 < k + 1 = h.1 in
        let same : h.0 ≡ k = omega (arith, l, g) in
        let e : Flop x ≡ Flop net = sym is ∙ ap (driver_of design.netlist) (sym same) ∙ h.2 in
        inr cc

-- another driver than a flip-flop at whose data paths may end
pub end_skipped : (paths : Between) (design : Design) (k net : ℕ) → ((source : ℕ) → driver_of design.netlist k ≡ Flop source → is_sampled paths design k ≡ true → ⊥)
    → IsEndBelow paths design (k + 1) net → IsEndBelow paths design k net
end_skipped paths design k net none (inl h) = inl h
end_skipped paths design k net none (inr h) = by (cases_lt h.0 k)
  where
    by : (h.0 < k) ⊎ (k ≤ h.0) → IsEndBelow paths design k net
    by (inl l) = inr (h.0, l, h.2, h.3)
    by (inr g) =
        let l : h.0 < k + 1 = h.1 in
        let same : h.0 ≡ k = omega (arith, l, g) in
        absurd (none net (ap (driver_of design.netlist) (sym same) ∙ h.2) (ap (is_sampled paths design) (sym same) ∙ h.3))

pub end_of_flop : (paths : Between) (design : Design) (k x : ℕ) → driver_of design.netlist k ≡ Flop x → is_sampled paths design k ≡ true → IsEnd paths design x
end_of_flop All design k x is sampled = inr (k, is)
end_of_flop (Clocked clock) design k x is sampled = (k, is, sampled)
end_of_flop (InputsTo clock) design k x is sampled = (k, is, sampled)
end_of_flop (OthersTo clock) design k x is sampled = (k, is, sampled)

-- a flip-flop's net is one
flop_within : (netlist : Netlist) (flop net : ℕ) → IsNetlist netlist → driver_of netlist flop ≡ Flop net → flop < length netlist.names
flop_within netlist flop net sound is = by (cases_lt flop (length netlist.names))
  where
    by : (flop < length netlist.names) ⊎ (length netlist.names ≤ flop) → flop < length netlist.names
    by (inl l) = l
    by (inr g) = let none : driver_of netlist flop ≡ Input = get_or_past netlist.drivers flop Input (omega (arith, g, sound.paired)) in absurd cc

pub end_all : (paths : Between) (design : Design) (net : ℕ) → IsNetlist design.netlist → IsEnd paths design net → IsEndBelow paths design (length design.netlist.names) net
end_all All design net sound (inl h) = inl h
end_all All design net sound (inr h) = inr (h.0, flop_within design.netlist h.0 net sound h.1, h.1, refl)
end_all (Clocked clock) design net sound h = inr (h.0, flop_within design.netlist h.0 net sound h.1, h.1, h.2)
end_all (InputsTo clock) design net sound h = inr (h.0, flop_within design.netlist h.0 net sound h.1, h.1, h.2)
end_all (OthersTo clock) design net sound h = inr (h.0, flop_within design.netlist h.0 net sound h.1, h.1, h.2)

-- ---- all ends

pub longest_is : (design : Design) (paths : Between) (arrivals : Arrivals) (longest : Longest) → IsNetlist design.netlist → AreLatest design paths arrivals
    → ((net : ℕ) → IsEnd paths design net → net < length design.netlist.names)
    → IsLongestSoFar design paths arrivals (IsEnd paths design) longest → IsLongest design paths longest
longest_is design paths arrivals longest sound are within so_far = by longest so_far.found (λ net t s. so_far.bounds net t s.0 ((are.latest net (within net s.0)).1 t s.1))
  where
    by : (l : Longest) → AreFound design paths l → ((net t : ℕ) → Settles design paths net t → Bounds l t) → IsLongest design paths l
    by NoPath found bounds = bounds
    by (To net ticks) found bounds = (found, bounds)
    by Unbounded found bounds = found

pub end_within : (paths : Between) (design : Design) (net : ℕ) → IsNetlist design.netlist → IsEnd paths design net → net < length design.netlist.names
end_within All design net sound (inl h) =
    let low = sound.outputs h.0 net h.1 in subst (λ (k : ℕ). k < length design.netlist.names) h.2 low
end_within All design net sound (inr h) = subst (IsWired (length design.netlist.names)) h.1 (driver-wired design.netlist sound h.0)
end_within (Clocked clock) design net sound h = subst (IsWired (length design.netlist.names)) h.1 (driver-wired design.netlist sound h.0)
end_within (InputsTo clock) design net sound h = subst (IsWired (length design.netlist.names)) h.1 (driver-wired design.netlist sound h.0)
end_within (OthersTo clock) design net sound h = subst (IsWired (length design.netlist.names)) h.1 (driver-wired design.netlist sound h.0)
