-- The two steps on the stop word keep its rule.
use Rattle.std.proofs.Common.{◌≡◌, ◌≢◌, ℕ, ◌==◌, ⊎_elim, Bool, true, false, true≢false, List, [], ◌∷◌, ◌++◌, if◌then◌else◌, set, sym, refl, ap, ◌∙◌, subst, All}
use Rattle.std.proofs.lemmas.List.Elements.{All-weaker, All-push, All-nil}
use mathlib.Core.Option.{some}
use lib.ListN.{get_elem?}
use Rattle.atomic_table.proofs.Lists.{at_set}
use Rattle.cmb_links.specs.Boards.{IsStopKept, any_raised}
use Rattle.cmb_links.specs.declared.view.Stops.{Stops}
use Rattle.cmb_links.proofs.Lists.{at_push, list_any-set_true, list_any-push_false}

abbrev stops : Bool → List Bool → Stops
stops b bs = record { raised = b; loads = bs }

pub raised : (x : ℕ) (seats : List Stops) (i : ℕ) (a : Stops) → IsStopKept x seats → get_elem? seats i ≡ some a → IsStopKept 1 (set seats i (stops true a.loads))
raised x seats i a kept at =
    let holds : any_raised (set seats i (stops true a.loads)) ≡ true = list_any-set_true (λ (y : Stops). y.raised) seats i a (stops true a.loads) at refl in record {
      held = rw holds refl;
      found = λ j other at'. ⊎_elim
          (λ (h : (j ≡ i) × (stops true a.loads ≡ other)). let P : Bool → Type 0 = λ b. b ≡ true → any_raised (set seats i (stops true a.loads)) ≡ true in
          subst (λ (y : Stops). All P y.loads) h.1 (All-weaker (λ b. b ≡ true → any_raised seats ≡ true) P (λ b _ _. holds) a.loads (kept.found i a at)))
          (λ (h : (j ≢ i) × (get_elem? seats j ≡ some other)). All-weaker (λ b. b ≡ true → any_raised seats ≡ true) (λ b. b ≡ true → any_raised (set seats i (stops true a.loads)) ≡ true)
          (λ b _ _. holds) other.loads (kept.found j other h.1))
          (at_set seats i j (stops true a.loads) other at');
    }

any_unseen : (seats : List Stops) (i : ℕ) (a : Stops) (bs : List Bool) → get_elem? seats i ≡ some a → any_raised (set seats i (stops a.raised bs)) ≡ any_raised seats
any_unseen [] i a bs e = refl
any_unseen (x ∷ xs) Prim.Native.Nat.zero a bs e = rw (ap (λ (y : Stops). y.raised) (mathlib.Core.Option.some-injective x a e)) refl
any_unseen (x ∷ xs) (Prim.Native.Nat.suc i) a bs e = rw (any_unseen xs i a bs e) refl

pub checked : (x : ℕ) (seats : List Stops) (i : ℕ) (a : Stops) → IsStopKept x seats → get_elem? seats i ≡ some a → IsStopKept x (set seats i (stops a.raised (a.loads ++ (x == 1) ∷ [])))
checked x seats i a kept at =
    let new : Stops = stops a.raised (a.loads ++ (x == 1) ∷ []) in
    let same : any_raised (set seats i new) ≡ any_raised seats = any_unseen seats i a (a.loads ++ (x == 1) ∷ []) at in
    let P : Bool → Type 0 = λ b. b ≡ true → any_raised seats ≡ true in
    let mine : (x == 1) ≡ true → any_raised seats ≡ true = found_one (any_raised seats) kept.held in record {
      held = rw same kept.held;
      found = λ j other at'. rw same (⊎_elim
          (λ (h : (j ≡ i) × (new ≡ other)). subst (λ (y : Stops). All P y.loads) h.1 (All-push P a.loads (x == 1) (kept.found i a at) mine))
          (λ (h : (j ≢ i) × (get_elem? seats j ≡ some other)). kept.found j other h.1)
          (at_set seats i j new other at'));
    }
  where
    found_one : (c : Bool) → x ≡ (if c then 1 else 0) → (x == 1) ≡ true → c ≡ true
    found_one true e h = refl
    found_one false e h = absurd (true≢false (sym h ∙ ap (λ (k : ℕ). k == 1) e))

pub seated : (x : ℕ) (seats : List Stops) → IsStopKept x seats → IsStopKept x (seats ++ stops false [] ∷ [])
seated x seats kept =
    let same : any_raised (seats ++ stops false [] ∷ []) ≡ any_raised seats = list_any-push_false (λ (y : Stops). y.raised) seats (stops false []) refl in
    let P : Bool → Type 0 = λ b. b ≡ true → any_raised seats ≡ true in record {
      held = rw same kept.held;
      found = λ j other at. rw same (⊎_elim
          (λ (h : get_elem? seats j ≡ some other). kept.found j other h)
          (λ h. subst (λ (y : Stops). All P y.loads) h.1 (All-nil P))
          (at_push seats (stops false []) other j at));
    }
