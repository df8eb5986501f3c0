-- The bits of a machine word that are set.
use Rattle.std.specs.Prelude.{ℕ, zero, suc, ◌+◌}
use Rattle.std.specs.Int.{bit_at}

-- how many are set of so many bits from one on
unfoldable pub set_bits : ℕ → ℕ → ℕ → ℕ
set_bits bits first zero = 0
set_bits bits first (suc places) = set_bits bits first places + bit_at bits (first + places)
