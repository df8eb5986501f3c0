-- What was put of a net.
use Rattle.std.proofs.Common.{◌≡◌, ℕ, ◌≤◌, ◌++◌, List, [], ◌∷◌, ap, arith}
use Rattle.cmb_wave.specs.Wave.{Piece}
use Rattle.cmb_links.specs.Links.{channel_clock}
use Rattle.cmb_links.proofs.Channels.{clock_meets}

-- a net's piece was put up to its end
pub reaches : (net : ℕ) (sent more : List Piece) (piece : Piece) → more ≡ sent ++ piece ∷ [] → piece.net ≡ net → piece.to ≤ channel_clock net more
reaches net sent more piece e same = omega (arith, clock_meets sent piece, ap (λ n. channel_clock n (sent ++ piece ∷ [])) same, ap (channel_clock net) e)
