-- Checks in their order, and the first that stands.
use Rattle.std.specs.Prelude.{◌≡◌, ◌⊎◌, ◌+◌, ◌++◌, ℕ, Bool, List, [], ◌∷◌, take, slice_get, Option, Some, None, Result, Ok, Err, if◌then◌else◌}
use Rattle.cmb_design_model.specs.declared.fault.DesignFault.{DesignFault}
use Rattle.cmb_design_model.specs.declared.fault.DesignFault.TheVariants as fault

-- a check: the fault that it answers, and whether it stands
pub record Check : Type 0 where
  pub answer : DesignFault
  pub stands : Bool

abbrev pub check : DesignFault → Bool → Check
check answer stands = record { answer = answer; stands = stands }

-- the fault of the first check that stands
unfoldable pub first_fault : List Check → Option DesignFault
first_fault [] = None
first_fault (c ∷ cs) = if c.stands then Some c.answer else first_fault cs

-- a fault is want of memory or that of the first check that stands
abbrev pub IsFaultOf : List Check → DesignFault → Type 0
IsFaultOf checks e = (e ≡ fault.Memory) ⊎ (first_fault checks ≡ Some e)

-- a value is answered where no check stands, else the first fault, want of memory aside
abbrev pub FollowsChecks : {X : Type 0} → List Check → X → Result X DesignFault → Type 0
FollowsChecks checks value (Ok x) = (first_fault checks ≡ None) × (x ≡ value)
FollowsChecks checks value (Err e) = IsFaultOf checks e

-- the checks of rows, each by its record's number and the rows before it; the first row is record 2
unfoldable pub checks_after : {X : Type 0} → (ℕ → List X → X → List Check) → ℕ → List X → List X → List Check
checks_after checks n earlier [] = []
checks_after checks n earlier (r ∷ rs) = checks n earlier r ++ checks_after checks (n + 1) (earlier ++ r ∷ []) rs

abbrev pub rows_checks : {X : Type 0} → (ℕ → List X → X → List Check) → List X → List Check
rows_checks checks rows = checks_after checks 2 [] rows

-- the checks of the row with an index
abbrev pub checks_of : {X : Type 0} → (ℕ → List X → X → List Check) → List X → ℕ → Option X → List Check
checks_of checks rows i None = []
checks_of checks rows i (Some r) = checks (i + 2) (take i rows) r

unfoldable pub checks_at : {X : Type 0} → (ℕ → List X → X → List Check) → List X → ℕ → List Check
checks_at checks rows i = checks_of checks rows i (slice_get rows i)
