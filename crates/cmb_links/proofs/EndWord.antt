-- The two steps on the number of finished workers keep its rule.
use Rattle.std.proofs.Common.{◌≡◌, ◌≢◌, ℕ, ◌+◌, ◌≤◌, ⊎_elim, Bool, true, false, cond, List, [], ◌∷◌, ◌++◌, set, sym, refl, ap, ◌∙◌, subst, arith, All, le_refl, zero, suc, ◌<◌, map}
use Rattle.std.proofs.lemmas.List.Elements.{All-weaker, All-push, All-nil}
use Rattle.std.proofs.lemmas.List.Sums.{sum_by-cons, sum_by-set, sum_by_push}
use mathlib.Core.Option.{some}
use lib.ListN.{get_elem?}
use Rattle.atomic_table.proofs.Lists.{at_set}
use Rattle.cmb_links.specs.Boards.{IsEndKept, count_finished}
use Rattle.cmb_links.specs.declared.view.Endings.{Endings}
use Rattle.cmb_links.specs.declared.view.View.{View}
use Rattle.cmb_links.proofs.Lists.{at_push, at_inside, get_at}

abbrev endings : Bool → List ℕ → Endings
endings b ks = record { finished = b; loads = ks }

abbrev one : Endings → ℕ
one x = cond x.finished 1 0

count_finished-set : (seats : List Endings) (i : ℕ) (a b : Endings) → get_elem? seats i ≡ some a → count_finished (set seats i b) + one a ≡ count_finished seats + one b
count_finished-set seats i a b e = rw (get_at seats i a a e) at (sum_by-set one seats i b a (at_inside seats i a e))

count_finished-set_same : (seats : List Endings) (i : ℕ) (a : Endings) (ks : List ℕ) → get_elem? seats i ≡ some a → count_finished (set seats i (endings a.finished ks)) ≡ count_finished seats
count_finished-set_same seats i a ks e = let h = count_finished-set seats i a (endings a.finished ks) e in omega arith

count_finished-set_more : (seats : List Endings) (i : ℕ) (a : Endings) (ks : List ℕ) → get_elem? seats i ≡ some a → a.finished ≡ false → count_finished (set seats i (endings true ks)) ≡ count_finished seats + 1
count_finished-set_more seats i a ks e fails = let h = count_finished-set seats i a (endings true ks) e in let none : one a ≡ 0 = ap (λ (b : Bool). cond b 1 0) fails in omega arith

count_finished-push : (seats : List Endings) → count_finished (seats ++ endings false [] ∷ []) ≡ count_finished seats
count_finished-push seats = let h = sum_by_push one seats (endings false []) in omega arith

-- where the seats from n on did not finish, at most n did
pub finished_few : (views : List View) (n : ℕ) → ((i : ℕ) (v : View) → get_elem? views i ≡ some v → v.endings.finished ≡ true → i < n) → count_finished (map (λ (v : View). v.endings) views) ≤ n
finished_few [] n below = omega arith
finished_few (v ∷ vs) zero below =
    let more = sum_by-cons one v.endings (map (λ (u : View). u.endings) vs) in
    let none : one v.endings ≡ 0 = ap (λ (b : Bool). cond b 1 0) (not_true v.endings.finished (λ e. let h = below zero v refl e in absurd (omega arith))) in
    let rest = finished_few vs zero (λ i u at e. let h = below (suc i) u at e in absurd (omega arith)) in
    omega arith
  where
    not_true : (b : Bool) → (b ≡ true → ⊥) → b ≡ false
    not_true true h = absurd (h refl)
    not_true false h = refl
finished_few (v ∷ vs) (suc n) below =
    let more = sum_by-cons one v.endings (map (λ (u : View). u.endings) vs) in
    let most : one v.endings ≤ 1 = at_most_one v.endings.finished in
    let rest = finished_few vs n (λ i u at e. let h = below (suc i) u at e in omega arith) in
    omega arith
  where
    at_most_one : (b : Bool) → cond b 1 0 ≤ 1
    at_most_one true = omega arith
    at_most_one false = omega arith

-- a seat that finished is counted
pub counts_itself : (seats : List Endings) (i : ℕ) (a : Endings) → get_elem? seats i ≡ some a → a.finished ≡ true → 1 ≤ count_finished seats
counts_itself seats i a e holds = let h = count_finished-set seats i a (endings false []) e in let some_one : one a ≡ 1 = ap (λ (b : Bool). cond b 1 0) holds in omega arith

pub finished : (x : ℕ) (seats : List Endings) (i : ℕ) (a : Endings) → IsEndKept x seats → get_elem? seats i ≡ some a → a.finished ≡ false → IsEndKept (x + 1) (set seats i (endings true a.loads))
finished x seats i a kept at fails =
    let new : Endings = endings true a.loads in
    let more : count_finished (set seats i new) ≡ count_finished seats + 1 = count_finished-set_more seats i a a.loads at fails in record {
      held = ap (λ (k : ℕ). k + 1) kept.held ∙ sym more;
      found = λ j other at'. ⊎_elim
          (λ (h : (j ≡ i) × (new ≡ other)). subst (λ (y : Endings). All (λ k. k ≤ x + 1) y.loads) h.1
          (All-weaker (λ k. k ≤ x) (λ k. k ≤ x + 1) (λ k l. omega arith) a.loads (kept.found i a at)))
          (λ (h : (j ≢ i) × (get_elem? seats j ≡ some other)). All-weaker (λ k. k ≤ x) (λ k. k ≤ x + 1) (λ k l. omega arith) other.loads (kept.found j other h.1))
          (at_set seats i j new other at');
    }

pub counted : (x : ℕ) (seats : List Endings) (i : ℕ) (a : Endings) → IsEndKept x seats → get_elem? seats i ≡ some a → IsEndKept x (set seats i (endings a.finished (a.loads ++ x ∷ [])))
counted x seats i a kept at =
    let new : Endings = endings a.finished (a.loads ++ x ∷ []) in record {
      held = kept.held ∙ sym (count_finished-set_same seats i a (a.loads ++ x ∷ []) at);
      found = λ j other at'. ⊎_elim
          (λ (h : (j ≡ i) × (new ≡ other)). subst (λ (y : Endings). All (λ k. k ≤ x) y.loads) h.1 (All-push (λ k. k ≤ x) a.loads x (kept.found i a at) (le_refl x)))
          (λ (h : (j ≢ i) × (get_elem? seats j ≡ some other)). kept.found j other h.1)
          (at_set seats i j new other at');
    }

pub seated : (x : ℕ) (seats : List Endings) → IsEndKept x seats → IsEndKept x (seats ++ endings false [] ∷ [])
seated x seats kept = record {
  held = kept.held ∙ sym (count_finished-push seats);
  found = λ j other at. ⊎_elim
      (λ (h : get_elem? seats j ≡ some other). kept.found j other h)
      (λ h. subst (λ (y : Endings). All (λ k. k ≤ x) y.loads) h.1 (All-nil (λ k. k ≤ x)))
      (at_push seats (endings false []) other j at);
}
