-- The numbers of names that a text uses.
use Rattle.std.proofs.Common.{◌≡◌, ℕ, List, sym, ap}
use Rattle.std.specs.Prelude.{Ok, Err, Some, None, position, bytes_eq}
use Rattle.cmb_bench.specs.declared.fault.FaultKind.TheVariants as faults
use Rattle.cmb_bench.specs.Statement.{Mention}
use Rattle.cmb_bench.specs.Inner.Building.{number_in, numbered}

pub number_found : (names : List (List ℕ)) (m : Mention) (n : ℕ) → Some n ≡ position (bytes_eq m.name) names → number_in names m ≡ Ok n
unfolding number_in
number_found names m n is = ap (λ p. numbered p m) (sym is)

pub number_missing : (names : List (List ℕ)) (m : Mention) → None ≡ position (bytes_eq m.name) names → number_in names m ≡ Err (record { line = m.line; kind = faults.Undriven })
unfolding number_in
number_missing names m is = ap (λ p. numbered p m) (sym is)
