-- Walks, and what they reach.
use Rattle.std.proofs.Common.{ℕ, inl, inr, List, sym, subst}
use Rattle.std.specs.Prelude.{Contains}
use Rattle.cmb_graph.specs.Loops.{Reaches, Walk, one, more}

pub walk_on : (next : ℕ → List ℕ) (a b c : ℕ) → Walk next a b → Walk next b c → Walk next a c
walk_on next a b c (one h) w = more h w
walk_on next a b c (more h v) w = more h (walk_on next _ b c v w)

pub reach_from : (next : ℕ → List ℕ) (a b c : ℕ) → Reaches next a b → Walk next b c → Walk next a c
reach_from next a b c (inl e) w = let P : ℕ → Type 0 = λ x. Walk next x c in subst P (sym e) w
reach_from next a b c (inr v) w = walk_on next a b c v w

pub reach_to : (next : ℕ → List ℕ) (a b c : ℕ) → Walk next a b → Reaches next b c → Walk next a c
reach_to next a b c w (inl e) = let P : ℕ → Type 0 = λ x. Walk next a x in subst P e w
reach_to next a b c w (inr v) = walk_on next a b c w v

pub reach_on : (next : ℕ → List ℕ) (a b c : ℕ) → Reaches next a b → Reaches next b c → Reaches next a c
reach_on next a b c (inl e) r = let P : ℕ → Type 0 = λ x. Reaches next x c in subst P (sym e) r
reach_on next a b c (inr w) r = inr (reach_to next a b c w r)

-- a set of nets from which no step leads out has what walks from it reach
pub walk_stays : (next : ℕ → List ℕ) (In : ℕ → Type 0) → ((a b : ℕ) → In a → Contains (next a) b → In b) → (a b : ℕ) → Walk next a b → In a → In b
walk_stays next In kept a b (one h) here = kept a b here h
walk_stays next In kept a b (more h w) here = walk_stays next In kept _ b w (kept a _ here h)
