-- Two pieces, the second of which goes on where the first ended.
use Rattle.std.specs.Prelude.{◌≡◌, ◌≤◌}
use Rattle.cmb_wave.specs.Wave.{Piece}

-- both are of net 0, the first begins at tick 0, and there is no gap
pub record Follow (first second : Piece) : Type 0 where
  pub first_net : first.net ≡ 0
  pub begins : first.from ≡ 0
  pub second_net : second.net ≡ 0
  pub joined : second.from ≤ first.to
