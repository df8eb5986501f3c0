-- Numbers of parts.
use Rattle.std.proofs.Common.{◌≡◌, ◌≢◌, ◌⊎◌, inl, inr, ℕ, ◌+◌, ◌<◌, ◌≤◌, Bool, List, [], ◌∷◌, ◌++◌, length, drop, get_or, set, replicate, sym, ap, ◌∙◌, subst, arith}
use Rattle.std.specs.Prelude.{Contains}
use Rattle.std.proofs.lemmas.Bool.{cases_eq, cases_lt}
use Rattle.std.proofs.lemmas.List.{get_or_default, get_or-set_same, get_or-set_other, length-replicate, length-set}
use Rattle.std.proofs.lemmas.List.Elements.{All-contains, Contains-get_or}
use Rattle.cmb_netlist.specs.Netlist.{Netlist}
use Rattle.cmb_graph.specs.Loops.{AreStrongComponents, Reaches, targets}
use Rattle.cmb_graph.specs.Inner.Search.{AreSet, IsNumbered, IsSearch, IsUnderWay, seen_of}
use Rattle.cmb_graph.specs.declared.search.Frame.{Frame}
use Rattle.cmb_graph.specs.declared.search.Search.{Search}
use Rattle.cmb_graph.specs.declared.search.Seen.{Seen}
use Rattle.cmb_graph.specs.declared.search.Seen.TheVariants.{New, On, Done}
use Rattle.cmb_graph.specs.declared.steps.Steps.{Steps}
use Rattle.cmb_graph.proofs.SearchFacts.{starts_low}
use Rattle.cmb_graph.proofs.PartFacts.{place_in_part}

-- ---- what a search keeps

-- none is done at the beginning
pub numbered_begun : (next : ℕ → List ℕ) (n : ℕ) → ((net : ℕ) → seen_of (replicate n New) net ≡ New) → IsNumbered next (replicate n New) (replicate n 0) 0
numbered_begun next n new = record {
  long = length-replicate n 0 ∙ sym (length-replicate n New);
  below = λ net e. let f = new net in absurd cc;
  falls = λ net target e step. let f = new net in absurd cc;
  together = λ net other e e' same. let f = new net in absurd cc;
}

-- a net that wasn't done comes to stand on the path
pub numbered_entered : (next : ℕ → List ℕ) (seen : List Seen) (numbers : List ℕ) (done net place : ℕ) → net < length seen → IsNumbered next seen numbers done
    → IsNumbered next (set seen net (On place)) numbers done
numbered_entered next seen numbers done net place within is = record {
  long = is.long ∙ sym (length-set seen net (On place));
  below = λ x e. is.below x (before x e (cases_eq x net));
  falls = λ x target e step. is.falls x target (before x e (cases_eq x net)) step;
  together = λ x y e f same. is.together x y (before x e (cases_eq x net)) (before y f (cases_eq y net)) same;
}
  where
    before : (x : ℕ) → seen_of (set seen net (On place)) x ≡ Done → (x ≡ net) ⊎ (x ≢ net) → seen_of seen x ≡ Done
    before x e (inl same) = let f : seen_of (set seen net (On place)) x ≡ On place = ap (seen_of (set seen net (On place))) same ∙ get_or-set_same seen net (On place) New within in absurd cc
    before x e (inr ne) = sym (get_or-set_other seen net x (On place) New ne) ∙ e

-- the last part is done
pub numbered_done : (next : ℕ → List ℕ) (seen seen' : List Seen) (numbers numbers' : List ℕ) (marks : List Bool) (path starts : List ℕ) (frames : List Frame) (place k done : ℕ)
    → IsSearch next seen marks path starts (frames ++ record { place = place; next = k } ∷ [])
    → ((net target : ℕ) → seen_of seen' net ≡ Done → Contains (next net) target → seen_of seen' target ≡ Done)
    → AreSet Done seen (drop place path) seen' → AreSet done numbers (drop place path) numbers'
    → IsNumbered next seen numbers done → IsNumbered next seen' numbers' (done + length (drop place path))
numbered_done next seen seen' numbers numbers' marks path starts frames place k done is closed' shut given was = record {
  long = given.long ∙ was.long ∙ sym shut.long;
  below = λ net e. by-below net (state net e);
  falls = λ net target e step. by-falls net target step (state net e) (state target (closed' net target e step));
  together = λ net other e f same. by-together net other same (state net e) (state other f);
}
  where
    State : ℕ → Type 0
    State net = (Contains (drop place path) net × (get_or numbers' net 0 ≡ done)) ⊎ ((seen_of seen net ≡ Done) × (get_or numbers' net 0 ≡ get_or numbers net 0))

    state : (net : ℕ) → seen_of seen' net ≡ Done → State net
    state net e = by (given.others net 0) (shut.others net New)
      where
        in-part : Contains (drop place path) net → State net
        in-part there = inl (there, All-contains (λ x. get_or numbers' x 0 ≡ done) (drop place path) net (given.all 0) there)

        by : Contains (drop place path) net ⊎ (get_or numbers' net 0 ≡ get_or numbers net 0) → Contains (drop place path) net ⊎ (seen_of seen' net ≡ seen_of seen net) → State net
        by (inl there) shut-at = in-part there
        by (inr same) (inl there) = in-part there
        by (inr same) (inr still) = inr (sym still ∙ e, same)

    -- the nets of the part weren't done
    not-yet : (net : ℕ) → Contains (drop place path) net → seen_of seen net ≡ Done → ⊥
    not-yet net there e =
        let at = place_in_part path place net there in
        let on : seen_of seen net ≡ On at.0 = sym (ap (seen_of seen) at.3) ∙ is.listed at.0 at.2 in
        cc

    by-below : (net : ℕ) → State net → get_or numbers' net 0 < done + length (drop place path)
    by-below net (inl there) = let l : there.0.0 < length (drop place path) = there.0.1 in omega (arith, there.1)
    by-below net (inr old) = let l = was.below net old.0 in omega (arith, l, old.1)

    by-falls : (net target : ℕ) → Contains (next net) target → State net → State target → get_or numbers' target 0 ≤ get_or numbers' net 0
    by-falls net target step (inl here) (inl there) = omega (arith, here.1, there.1)
    by-falls net target step (inl here) (inr old) = let l = was.below target old.0 in omega (arith, here.1, old.1, l)
    by-falls net target step (inr old) (inl there) = absurd (not-yet target there.0 (is.closed net target old.0 step))
    by-falls net target step (inr old) (inr other) = let l = was.falls net target old.0 step in omega (arith, old.1, other.1, l)

    reach : (net other : ℕ) → Contains (drop place path) net → Contains (drop place path) other → Reaches next net other
    reach net other here there =
        let p = place_in_part path place net here in
        let q = place_in_part path place other there in
        let P : ℕ → Type 0 = λ x. Reaches next x other in
        let Q : ℕ → Type 0 = λ x. Reaches next (get_or path p.0 0) x in
        subst P p.3 (subst Q q.3 (by p.0 q.0 p.1 p.2 q.1 q.2 (cases_lt p.0 q.0)))
      where
        by : (p q : ℕ) → place ≤ p → p < length path → place ≤ q → q < length path → (p < q) ⊎ (q ≤ p) → Reaches next (get_or path p 0) (get_or path q 0)
        by p q lp hp lq hq (inl l) = is.forth p q (omega arith) hq
        by p q lp hp lq hq (inr g) = is.back q p g hp (λ start there under. let low = starts_low next seen marks path starts frames place k is start there in omega (arith, low))

    by-together : (net other : ℕ) → get_or numbers' net 0 ≡ get_or numbers' other 0 → State net → State other → Reaches next net other
    by-together net other same (inl here) (inl there) = reach net other here.0 there.0
    by-together net other same (inl here) (inr old) = let l = was.below other old.0 in absurd (omega (arith, here.1, old.1, l, same))
    by-together net other same (inr old) (inl there) = let l = was.below net old.0 in absurd (omega (arith, there.1, old.1, l, same))
    by-together net other same (inr old) (inr older) = was.together net other old.0 older.0 (sym old.1 ∙ same ∙ older.1)

-- ---- all nets are done

pub numbered_all : (netlist : Netlist) (steps : Steps) (search : Search) → IsUnderWay netlist steps search []
    → ((net : ℕ) → net < length netlist.names → seen_of search.seen.items net ≡ Done) → AreStrongComponents netlist steps search.numbers.items
numbered_all netlist steps search under done = record {
  nets = long;
  below = λ k d h.
      let l = under.numbered.below k (done k (omega (arith, h, long))) in
      let e = get_or_default search.numbers.items k d 0 h in
      omega (arith, l, e, under.room);
  falls = λ net within k d h.
      let e = get_or_default (targets netlist steps net) k d 0 h in
      rw e (under.numbered.falls net (get_or (targets netlist steps net) k 0) (done net within) (Contains-get_or (targets netlist steps net) k 0 h));
  together = λ net other within low same. under.numbered.together net other (done net within) (done other low) same;
}
  where
    long : length search.numbers.items ≡ length netlist.names
    long = under.numbered.long ∙ under.sized
