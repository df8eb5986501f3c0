-- The two steps on a net's word keep the rule of the net.
use Rattle.std.proofs.Common.{◌≡◌, ◌≢◌, ℕ, ◌^◌, ◌<◌, ◌≤◌, inl, inr, ⊎_elim, List, [], ◌∷◌, ◌++◌, set, sym, ap, ◌∙◌, subst, arith, All, le_refl}
use Rattle.std.proofs.lemmas.List.Elements.{All-weaker, All-push, All-nil, Contains-append_left}
use mathlib.Core.Option.{some}
use lib.ListN.{get_elem?}
use Rattle.atomic_table.proofs.Lists.{at_set}
use Rattle.cmb_wave.specs.Calls.{word_of}
use Rattle.cmb_design_model.specs.Design.{Design}
use Rattle.cmb_design_model.specs.Exact.{IsRightIn}
use Rattle.cmb_links.specs.Promises.{newest}
use Rattle.cmb_links.specs.Boards.{IsKnown, IsNetKept}
use Rattle.cmb_wave.specs.declared.level.Promise.{Promise}
use Rattle.cmb_links.proofs.Lists.{at_push}
use Rattle.cmb_links.proofs.Newest.{newest-push_same, newest-push_other, newest-made}

-- a load of this net found the newest
pub knows_newest : (n : ℕ) (log : List Promise) → IsKnown n log (newest n log)
knows_newest n log = record { below = le_refl _; made = newest-made n log }

-- a later promise of this net
pub published : (d : Design) (n x : ℕ) (log : List Promise) (records : List (List Promise)) (p : Promise)
    → IsNetKept d n x log records → p.net ≡ n → IsRightIn d p → p.upto < 2 ^ 32 → (newest n log).upto ≤ p.upto → IsNetKept d n (word_of p) (log ++ p ∷ []) records
published d n x log records p kept is right fits rises =
    let now : newest n (log ++ p ∷ []) ≡ p = newest-push_same n log p is in record {
      held = ap word_of (sym now);
      fits = rw now fits;
      right = subst (IsRightIn d) (sym now) right;
      found = λ i loads at. All-weaker (λ q. q.net ≡ n → IsKnown n log q) (λ q. q.net ≡ n → IsKnown n (log ++ p ∷ []) q)
          (λ q h own. let k = h own in let b = k.below in record {
            below = rw now (omega arith);
            made = ⊎_elim (λ none. inl none) (λ c. inr (Contains-append_left log (p ∷ []) q c)) k.made;
          }) loads (kept.found i loads at);
    }

-- a promise of another net
pub published_other : (d : Design) (n x : ℕ) (log : List Promise) (records : List (List Promise)) (p : Promise)
    → IsNetKept d n x log records → p.net ≢ n → IsNetKept d n x (log ++ p ∷ []) records
published_other d n x log records p kept other =
    let now : newest n (log ++ p ∷ []) ≡ newest n log = newest-push_other n log p other in record {
      held = kept.held ∙ ap word_of (sym now);
      fits = rw now kept.fits;
      right = subst (IsRightIn d) (sym now) kept.right;
      found = λ i loads at. All-weaker (λ q. q.net ≡ n → IsKnown n log q) (λ q. q.net ≡ n → IsKnown n (log ++ p ∷ []) q)
          (λ q h own. let k = h own in record {
            below = rw now k.below;
            made = ⊎_elim (λ none. inl none) (λ c. inr (Contains-append_left log (p ∷ []) q c)) k.made;
          }) loads (kept.found i loads at);
    }

-- one more load
pub loaded : (d : Design) (n x : ℕ) (log : List Promise) (records : List (List Promise)) (i : ℕ) (loads : List Promise) (q : Promise)
    → IsNetKept d n x log records → get_elem? records i ≡ some loads → (q.net ≡ n → IsKnown n log q) → IsNetKept d n x log (set records i (loads ++ q ∷ []))
loaded d n x log records i loads q kept at known = record {
  held = kept.held;
  fits = kept.fits;
  right = kept.right;
  found = λ j other at'. ⊎_elim
      (λ (h : (j ≡ i) × (loads ++ q ∷ [] ≡ other)). subst (All (λ r. r.net ≡ n → IsKnown n log r)) h.1
      (All-push (λ r. r.net ≡ n → IsKnown n log r) loads q (kept.found i loads at) known))
      (λ (h : (j ≢ i) × (get_elem? records j ≡ some other)). kept.found j other h.1)
      (at_set records i j (loads ++ q ∷ []) other at');
}

-- a new seat
pub seated : (d : Design) (n x : ℕ) (log : List Promise) (records : List (List Promise))
    → IsNetKept d n x log records → IsNetKept d n x log (records ++ [] ∷ [])
seated d n x log records kept = record {
  held = kept.held;
  fits = kept.fits;
  right = kept.right;
  found = λ j other at. ⊎_elim
      (λ (h : get_elem? records j ≡ some other). kept.found j other h)
      (λ h. subst (All (λ r. r.net ≡ n → IsKnown n log r)) h.1 (All-nil (λ r. r.net ≡ n → IsKnown n log r)))
      (at_push records [] other j at);
}
