-- The two halves of a trace, which inductions take apart.
use Rattle.std.proofs.Common.{◌≢◌, ◌≡◌, ℕ, suc, ◌<◌, ◌≤◌, List, [], ◌∷◌, false, refl, arith, None}
use Rattle.cmb_wave.specs.declared.level.Level.{Level}
use Rattle.cmb_wave.specs.declared.level.Change.{Change}
use Rattle.cmb_wave.specs.Waveform.{IsTrace, same_level, clash}
use Rattle.cmb_wave.proofs.Lists.{test_of_differs}

-- the ticks rise strictly, and lie in [from, to)
abbrev pub RisesWithin : ℕ → ℕ → List Change → Type 0
RisesWithin from to [] = Unit {0}
RisesWithin from to (change ∷ changes) =
    (from ≤ change.tick) × (change.tick < to) × RisesWithin (suc change.tick) to changes

-- each change is to a level other than the one before it, which is `kept` before the first
abbrev pub Alternates : Level → List Change → Type 0
Alternates kept [] = Unit {0}
Alternates kept (change ∷ changes) = (change.level ≢ kept) × Alternates change.level changes

pub trace-rises : (kept : Level) (from to : ℕ) (cs : List Change) → IsTrace kept from cs to → RisesWithin from to cs
trace-rises kept from to [] t = tt
trace-rises kept from to (c ∷ cs) t = (t.0, t.1, trace-rises c.level (suc c.tick) to cs t.3)

pub trace-alternates : (kept : Level) (from to : ℕ) (cs : List Change) → IsTrace kept from cs to → Alternates kept cs
trace-alternates kept from to [] t = tt
trace-alternates kept from to (c ∷ cs) t = (t.2, trace-alternates c.level (suc c.tick) to cs t.3)

pub trace-both : (kept : Level) (from to : ℕ) (cs : List Change) → from ≤ to → RisesWithin from to cs → Alternates kept cs → IsTrace kept from cs to
trace-both kept from to [] h r a = h
trace-both kept from to (c ∷ cs) h r a =
    (r.0, r.1, a.0, trace-both c.level (suc c.tick) to cs (omega (arith, r.1)) r.2 a.1)

pub clash-none : (level : Level) (cs : List Change) → Alternates level cs → clash level cs ≡ None
clash-none level [] a = refl
clash-none level (c ∷ cs) a =
    let e : same_level c.level level ≡ false = test_of_differs c.level level a.0 in
    rw e refl
