-- The newest promise of a net in a list, and a promise as a word.
use Rattle.std.proofs.Common.{◌≡◌, ◌≢◌, ℕ, suc, ◌^◌, ◌/◌, ◌%◌, ◌<◌, ◌≤◌, ◌==◌, ◌⊎◌, inl, inr, ⊎_elim, Bool, true, false, true≢false, List, [], ◌∷◌, ◌++◌, if◌then◌else◌, sym, refl, ◌∙◌, arith, Contains, All, eq-eqb, ne_eqb, eqb-true, mod-eq_of_lt}
use Rattle.std.proofs.lemmas.Nat.{div-mul-add}
use Rattle.std.proofs.Math.Nat.{mul-add-mod_self_right}
use Rattle.std.proofs.lemmas.List.Elements.{All-push, All-nil, All-head, All-tail, All-cons, All-weaker}
use Rattle.cmb_wave.specs.Calls.{word_of}
use Rattle.cmb_links.specs.Promises.{promise, promise_of_word, newest_after, newest, NeverFalls}
use Rattle.cmb_wave.specs.declared.level.Promise.{Promise}

pub newest_after-push : (p : Promise) (n : ℕ) (qs : List Promise) (r : Promise) → newest_after p n (qs ++ r ∷ []) ≡ (if r.net == n then r else newest_after p n qs)
newest_after-push p n [] r = refl
newest_after-push p n (q ∷ qs) r = newest_after-push (if q.net == n then q else p) n qs r

pub newest-push_same : (n : ℕ) (qs : List Promise) (r : Promise) → r.net ≡ n → newest n (qs ++ r ∷ []) ≡ r
newest-push_same n qs r e = newest_after-push (promise n 0 0) n qs r ∙ rw (eq-eqb r.net n e) refl

pub newest-push_other : (n : ℕ) (qs : List Promise) (r : Promise) → r.net ≢ n → newest n (qs ++ r ∷ []) ≡ newest n qs
newest-push_other n qs r e = newest_after-push (promise n 0 0) n qs r ∙ rw (ne_eqb r.net n e) refl

newest_after-net : (p : Promise) (n : ℕ) (qs : List Promise) → p.net ≡ n → (newest_after p n qs).net ≡ n
newest_after-net p n [] e = e
newest_after-net p n (q ∷ qs) e = newest_after-net (if q.net == n then q else p) n qs (go (q.net == n) refl)
  where
    go : (b : Bool) → (q.net == n) ≡ b → (if b then q else p).net ≡ n
    go true is = eqb-true q.net n is
    go false is = e

pub newest-net : (n : ℕ) (qs : List Promise) → (newest n qs).net ≡ n
newest-net n qs = newest_after-net (promise n 0 0) n qs refl

newest_after-made : (p : Promise) (n : ℕ) (qs : List Promise) → (newest_after p n qs ≡ p) ⊎ Contains qs (newest_after p n qs)
newest_after-made p n [] = inl refl
newest_after-made p n (q ∷ qs) = go (q.net == n) (newest_after-made (if q.net == n then q else p) n qs)
  where
    first : (x : Promise) → x ≡ q → Contains (q ∷ qs) x
    first x e = (0, omega arith, sym e)

    later : (x : Promise) → Contains qs x → Contains (q ∷ qs) x
    later x h = let l = h.1 in (suc h.0, omega arith, h.2)

    go : (b : Bool) → ((newest_after (if b then q else p) n qs ≡ (if b then q else p)) ⊎ Contains qs (newest_after (if b then q else p) n qs))
        → (newest_after (if b then q else p) n qs ≡ p) ⊎ Contains (q ∷ qs) (newest_after (if b then q else p) n qs)
    go true h = ⊎_elim (λ e. inr (first (newest_after q n qs) e)) (λ c. inr (later (newest_after q n qs) c)) h
    go false h = ⊎_elim (λ e. inl e) (λ c. inr (later (newest_after p n qs) c)) h

pub newest-made : (n : ℕ) (qs : List Promise) → (newest n qs ≡ promise n 0 0) ⊎ Contains qs (newest n qs)
newest-made n qs = newest_after-made (promise n 0 0) n qs

-- a promise is what its word stands for
pub promise_of_word-word_of : (p : Promise) (n : ℕ) → p.net ≡ n → p.upto < 2 ^ 32 → promise_of_word n (word_of p) ≡ p
promise_of_word-word_of p n e h =
    let c : word_of p / 2 ^ 32 ≡ p.count = div-mul-add p.count (2 ^ 32) p.upto h in
    let u : word_of p % 2 ^ 32 ≡ p.upto = mul-add-mod_self_right p.count (2 ^ 32) p.upto ∙ mod-eq_of_lt h in
    λ i. promise (sym e i) (c i) (u i)

-- where a list never falls, the newest promise of a net is not below the others
newest_after-above : (p : Promise) (n : ℕ) (qs : List Promise) → All (λ q. q.net ≡ n → p.upto ≤ q.upto) qs → NeverFalls qs
    → (p.upto ≤ (newest_after p n qs).upto) × All (λ q. q.net ≡ n → q.upto ≤ (newest_after p n qs).upto) qs
newest_after-above p n [] above falls = (omega arith, All-nil (λ q. q.net ≡ n → q.upto ≤ p.upto))
newest_after-above p n (q ∷ qs) above falls = go (q.net == n) refl (newest_after-above (if q.net == n then q else p) n qs (rest (q.net == n) refl) falls.1)
  where
    rest : (b : Bool) → (q.net == n) ≡ b → All (λ r. r.net ≡ n → (if b then q else p).upto ≤ r.upto) qs
    rest true is = let e : q.net ≡ n = eqb-true q.net n is in
        All-weaker (λ r. r.net ≡ q.net → q.upto ≤ r.upto) (λ r. r.net ≡ n → q.upto ≤ r.upto) (λ r h same. h (same ∙ sym e)) qs falls.0
    rest false is = All-tail (λ r. r.net ≡ n → p.upto ≤ r.upto) q qs above

    go : (b : Bool) → (q.net == n) ≡ b
        → (((if b then q else p).upto ≤ (newest_after (if b then q else p) n qs).upto) × All (λ r. r.net ≡ n → r.upto ≤ (newest_after (if b then q else p) n qs).upto) qs)
        → (p.upto ≤ (newest_after (if b then q else p) n qs).upto) × All (λ r. r.net ≡ n → r.upto ≤ (newest_after (if b then q else p) n qs).upto) (q ∷ qs)
    go true is h =
        let first : p.upto ≤ q.upto = All-head (λ r. r.net ≡ n → p.upto ≤ r.upto) q qs above (eqb-true q.net n is) in
        let mine = h.0 in
        (omega arith, All-cons (λ r. r.net ≡ n → r.upto ≤ (newest_after q n qs).upto) q qs (λ _. h.0) h.1)
    go false is h = (h.0, All-cons (λ r. r.net ≡ n → r.upto ≤ (newest_after p n qs).upto) q qs (λ same. absurd (true≢false (sym (eq-eqb q.net n same) ∙ is))) h.1)

pub below_newest : (n : ℕ) (ps : List Promise) → NeverFalls ps → All (λ p. p.net ≡ n → p.upto ≤ (newest n ps).upto) ps
below_newest n ps falls = (newest_after-above (promise n 0 0) n ps (λ k d in' same. omega arith) falls).1

falls_not : (ps : List Promise) (q : Promise) → NeverFalls ps → All (λ p. p.net ≡ q.net → p.upto ≤ q.upto) ps → NeverFalls (ps ++ q ∷ [])
falls_not [] q falls below = (All-nil (λ r. r.net ≡ q.net → q.upto ≤ r.upto), tt)
falls_not (p ∷ ps) q falls below = (
  All-push (λ r. r.net ≡ p.net → p.upto ≤ r.upto) ps q falls.0 (λ same. All-head (λ r. r.net ≡ q.net → r.upto ≤ q.upto) p ps below (sym same)),
  falls_not ps q falls.1 (All-tail (λ r. r.net ≡ q.net → r.upto ≤ q.upto) p ps below),
)

-- a list goes on with a promise that isn't below the newest of its net
pub NeverFalls-push : (ps : List Promise) (q : Promise) → NeverFalls ps → (newest q.net ps).upto ≤ q.upto → NeverFalls (ps ++ q ∷ [])
NeverFalls-push ps q falls rises = falls_not ps q falls
    (All-weaker (λ p. p.net ≡ q.net → p.upto ≤ (newest q.net ps).upto) (λ p. p.net ≡ q.net → p.upto ≤ q.upto) (λ p h same. let below = h same in omega arith) ps (below_newest q.net ps falls))
