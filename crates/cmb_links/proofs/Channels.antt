-- The clock of a channel after one piece more.
use Rattle.std.proofs.Common.{◌≡◌, ℕ, ◌≤◌, Bool, true, false, cond, eqb, List, [], ◌∷◌, ◌++◌, max, refl, arith}
use Rattle.std.proofs.lemmas.Bool.{eq-eqb, eqb-true}
use Rattle.cmb_wave.specs.Wave.{Piece}
use Rattle.cmb_links.specs.Links.{channel_clock}

pub clock_keeps : (net : ℕ) (pieces : List Piece) (piece : Piece) → channel_clock net pieces ≤ channel_clock net (pieces ++ piece ∷ [])
clock_keeps net [] piece = omega arith
clock_keeps net (first ∷ pieces) piece = omega (arith, clock_keeps net pieces piece)

pub clock_meets : (pieces : List Piece) (piece : Piece) → piece.to ≤ channel_clock piece.net (pieces ++ piece ∷ [])
clock_meets [] piece = let same : eqb piece.net piece.net ≡ true = eq-eqb piece.net piece.net refl in rw same (omega arith)
clock_meets (first ∷ pieces) piece = omega (arith, clock_meets pieces piece)

-- a tick that the clock didn't pass, and that the piece doesn't pass where it is of the net
pub clock_within : (net tick : ℕ) (pieces : List Piece) (piece : Piece) → channel_clock net pieces ≤ tick → (piece.net ≡ net → piece.to ≤ tick) → channel_clock net (pieces ++ piece ∷ []) ≤ tick
clock_within net tick [] piece before here = go (eqb piece.net net) refl
  where
    go : (b : Bool) → eqb piece.net net ≡ b → max (cond b piece.to 0) 0 ≤ tick
    go true e = omega (arith, here (eqb-true piece.net net e))
    go false e = omega arith
clock_within net tick (first ∷ pieces) piece before here = omega (arith, clock_within net tick pieces piece (omega arith) here)
