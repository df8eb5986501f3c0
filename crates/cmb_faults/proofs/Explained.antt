-- The faults of a simulation and the explanations of faults have the same numbers.
use Rattle.std.proofs.Common.{◌≡◌, ℕ, ◌+◌, ◌<◌, ◌≤◌, Bool, true, false, nat_lt, inl, inr, refl, arith, subst, sym}
use Rattle.std.proofs.lemmas.Bool.{ltb-true, ltb-false}
use Rattle.cmb_bench.specs.declared.fault.FaultKind.{FaultKind}
use Rattle.cmb_bench.specs.declared.fault.FaultKind.TheVariants as kind
use Rattle.cmb_bench.specs.FirstFault.{number_of_fault}
use Rattle.cmb_design_model.specs.declared.fault.DesignFault.{DesignFault}
use Rattle.cmb_design_model.specs.declared.fault.DesignFault.TheVariants as design
use Rattle.cmb_design_model.specs.Faults.{fault_number}
use Rattle.cmb_explain.specs.Known.{IsFaultNumber, IsNetlistFault, IsSettingsFault, IsTableFault, Within}
use Rattle.cmb_faults.specs.Numbers.{number_of}
use Rattle.cmb_faults.specs.declared.fault.Fault.{Fault}
use Rattle.cmb_faults.specs.declared.fault.Fault.TheVariants.{Bench, Design, Unknown, Clusters, Incomplete, Workers, TooLong, Read, Write, Memory}

-- ---- a fault's number is explained

of_kind : (k : FaultKind) → IsFaultNumber (number_of_fault k)
of_kind kind.Memory = inr (inr (inr (inr (inr (inr refl)))))
of_kind k = inl (omega arith, omega arith)

-- a number of a fault of tables, and one of settings
table : (n : ℕ) → IsTableFault n → IsFaultNumber n
table n h = inr (inl h)

settings : (n : ℕ) → IsSettingsFault n → IsFaultNumber n
settings n h = inr (inr (inl h))

of_design : (f : DesignFault) → IsFaultNumber (fault_number f)
of_design design.Horizon = settings 20 (inl (omega arith, omega arith))
of_design design.Clock = settings 21 (inl (omega arith, omega arith))
of_design design.NoClock = settings 22 (inl (omega arith, omega arith))
of_design design.TableTooLarge = settings 33 (inr (inl refl))
of_design (design.PinName n) = table 34 (inr (inl (omega arith, omega arith)))
of_design (design.NoPin n) = table 35 (inr (inl (omega arith, omega arith)))
of_design (design.ClockRange n) = table 36 (inr (inl (omega arith, omega arith)))
of_design (design.NotFlop n) = table 37 (inr (inl (omega arith, omega arith)))
of_design (design.BeyondHorizon n) = table 39 (inr (inr refl))
of_design design.Memory = inr (inr (inr (inr (inr (inr refl)))))
of_design f = table (fault_number f) (inl (omega arith, omega arith))

pub explained : (f : Fault) → IsFaultNumber (number_of f)
explained (Bench f) = of_kind f.kind
explained (Design f) = of_design f
explained (Unknown line) = inr (inr (inr (inl refl)))
explained Clusters = settings 40 (inr (inr (inl refl)))
explained (Incomplete net upto) = inr (inr (inr (inr (inl refl))))
explained Workers = settings 54 (inr (inr (inr refl)))
explained (TooLong input) = inr (inr (inr (inr (inr (inl (omega arith, omega arith))))))
explained (Read input) = inr (inr (inr (inr (inr (inl (omega arith, omega arith))))))
explained (Write written) = inr (inr (inr (inr (inr (inl (omega arith, omega arith))))))
explained Memory = inr (inr (inr (inr (inr (inr refl)))))

-- ---- an explained number is that of a fault

-- a number from `low` on is `low` or greater
step : (P : ℕ → Type 0) (low n : ℕ) → low ≤ n → P low → (low + 1 ≤ n → P n) → P n
step P low n h here above = by (nat_lt low n) refl
  where
    by : (b : Bool) → nat_lt low n ≡ b → P n
    by true e = above (let more : low < n = ltb-true low n e in omega arith)
    by false e = let most : n ≤ low = ltb-false low n e in let same : low ≡ n = omega arith in subst P same here

abbrev IsOfFault : ℕ → Type 0
IsOfFault n = (f : Fault) × (number_of f ≡ n)

of_netlist : (n : ℕ) → IsNetlistFault n → IsOfFault n
of_netlist n h =
    step IsOfFault 1 n h.0 (Bench (record { line = 1; kind = kind.Byte }), refl) (λ a.
    step IsOfFault 2 n a (Bench (record { line = 1; kind = kind.Statement }), refl) (λ b.
    step IsOfFault 3 n b (Bench (record { line = 1; kind = kind.Kind }), refl) (λ c.
    step IsOfFault 4 n c (Bench (record { line = 1; kind = kind.Operands }), refl) (λ d.
    step IsOfFault 5 n d (Bench (record { line = 1; kind = kind.Driven }), refl) (λ e.
    step IsOfFault 6 n e (Bench (record { line = 1; kind = kind.Undriven }), refl) (λ f.
    step IsOfFault 7 n f (Bench (record { line = 1; kind = kind.TooMany }), refl) (λ g.
    step IsOfFault 8 n g (Bench (record { line = 1; kind = kind.Name }), refl) (λ i. let most : n ≤ 8 = h.1 in absurd (omega arith)))))))))

of_read : (n : ℕ) → Within 23 32 n → IsOfFault n
of_read n h =
    step IsOfFault 23 n h.0 (Design (design.Header 1), refl) (λ a.
    step IsOfFault 24 n a (Design (design.Fields 1), refl) (λ b.
    step IsOfFault 25 n b (Design (design.Number 1), refl) (λ c.
    step IsOfFault 26 n c (Design (design.UnknownNet 1), refl) (λ d.
    step IsOfFault 27 n d (Design (design.UnknownKind 1), refl) (λ e.
    step IsOfFault 28 n e (Design (design.DelayRange 1), refl) (λ f.
    step IsOfFault 29 n f (Design (design.RepeatedRow 1), refl) (λ g.
    step IsOfFault 30 n g (Design (design.NotInput 1), refl) (λ i.
    step IsOfFault 31 n i (Design (design.Level 1), refl) (λ j.
    step IsOfFault 32 n j (Design (design.DelayOfInput 1), refl) (λ k. let most : n ≤ 32 = h.1 in absurd (omega arith)))))))))))

of_row : (n : ℕ) → Within 34 37 n → IsOfFault n
of_row n h =
    step IsOfFault 34 n h.0 (Design (design.PinName 1), refl) (λ a.
    step IsOfFault 35 n a (Design (design.NoPin 1), refl) (λ b.
    step IsOfFault 36 n b (Design (design.ClockRange 1), refl) (λ c.
    step IsOfFault 37 n c (Design (design.NotFlop 1), refl) (λ d. let most : n ≤ 37 = h.1 in absurd (omega arith)))))

of_setting : (n : ℕ) → Within 20 22 n → IsOfFault n
of_setting n h =
    step IsOfFault 20 n h.0 (Design design.Horizon, refl) (λ a.
    step IsOfFault 21 n a (Design design.Clock, refl) (λ b.
    step IsOfFault 22 n b (Design design.NoClock, refl) (λ c. let most : n ≤ 22 = h.1 in absurd (omega arith))))

of_end : (n : ℕ) → Within 60 62 n → IsOfFault n
of_end n h =
    step IsOfFault 60 n h.0 (TooLong 1, refl) (λ a.
    step IsOfFault 61 n a (Read 1, refl) (λ b.
    step IsOfFault 62 n b (Write 0, refl) (λ c. let most : n ≤ 62 = h.1 in absurd (omega arith))))

pub of_fault : (n : ℕ) → IsFaultNumber n → IsOfFault n
of_fault n (inl h) = of_netlist n h
of_fault n (inr (inl (inl h))) = of_read n h
of_fault n (inr (inl (inr (inl h)))) = of_row n h
of_fault n (inr (inl (inr (inr e)))) = (Design (design.BeyondHorizon 1), sym e)
of_fault n (inr (inr (inl (inl h)))) = of_setting n h
of_fault n (inr (inr (inl (inr (inl e))))) = (Design design.TableTooLarge, sym e)
of_fault n (inr (inr (inl (inr (inr (inl e)))))) = (Clusters, sym e)
of_fault n (inr (inr (inl (inr (inr (inr e)))))) = (Workers, sym e)
of_fault n (inr (inr (inr (inl e)))) = (Unknown 1, sym e)
of_fault n (inr (inr (inr (inr (inl e))))) = (Incomplete 0 0, sym e)
of_fault n (inr (inr (inr (inr (inr (inl h)))))) = of_end n h
of_fault n (inr (inr (inr (inr (inr (inr e)))))) = (Memory, sym e)
