use Rattle.std.proofs.Common.{ℕ, zero, suc, [], ◌∷◌, refl, arith}
use Rattle.std.specs.Prelude.{All, Contains}
use Rattle.worked_engine.proofs.nets.places_of_nets.Goals as goal

pub places_in-requires-clause-there : goal.places_in-requires-clause-there
places_in-requires-clause-there g c = there
  where
    there : All {X = ℕ} (Contains (1 ∷ 3 ∷ 4 ∷ [])) (1 ∷ 4 ∷ [])
    there zero d within = (0, omega arith, refl)
    there (suc zero) d within = (2, omega arith, refl)
    there (suc (suc k)) d within = absurd (omega (arith, within))
