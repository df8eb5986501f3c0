-- Codes of different nets differ.
use Rattle.std.proofs.Common.{◌≡◌, ◌≢◌, ℕ, zero, suc, ◌+◌, ◌-◌, ◌/◌, ◌%◌, ◌<◌, ◌≤◌, true, false, List, [], ◌∷◌, ◌⊎◌, inl, inr, ap, sym, ◌∙◌, arith, ltb}
use Rattle.std.proofs.lemmas.Bool.{lt-ltb, le-ltb, cases_lt}
use Rattle.cmb_run_text.specs.Vcd.{code_within, code}

-- the two cases of a code
code_within-last : (bytes net : ℕ) → net < 94 → code_within (suc bytes) net ≡ (33 + net) ∷ []
unfolding code_within
code_within-last bytes net h = let e : ltb net 94 ≡ true = lt-ltb net 94 h in rw e

code_within-more : (bytes net : ℕ) → 94 ≤ net → code_within (suc bytes) net ≡ (33 + net % 94) ∷ code_within bytes (net / 94 - 1)
unfolding code_within
code_within-more bytes net h = let e : ltb net 94 ≡ false = le-ltb net 94 h in rw e

heads : (x y : ℕ) (xs ys : List ℕ) → x ∷ xs ≡ y ∷ ys → x ≡ y
heads x y xs ys e = cc

tails : (x y : ℕ) (xs ys : List ℕ) → x ∷ xs ≡ y ∷ ys → xs ≡ ys
tails x y xs ys e = cc

-- a code isn't empty
code_within-some : (bytes net : ℕ) → net < bytes → code_within bytes net ≢ []
code_within-some zero net h e = absurd (omega arith)
code_within-some (suc bytes) net h e = go (cases_lt net 94)
  where
    go : (net < 94) ⊎ (94 ≤ net) → ⊥
    go (inl l) = let c : code_within (suc bytes) net ≡ (33 + net) ∷ [] = code_within-last bytes net l in cc
    go (inr l) = let c : code_within (suc bytes) net ≡ (33 + net % 94) ∷ code_within bytes (net / 94 - 1) = code_within-more bytes net l in cc

code_within-differ : (bytes more net other : ℕ) → net < bytes → other < more → code_within bytes net ≡ code_within more other → net ≡ other
code_within-differ zero more net other a b e = absurd (omega arith)
code_within-differ (suc bytes) zero net other a b e = absurd (omega arith)
code_within-differ (suc bytes) (suc more) net other a b e =
    go (cases_lt net 94) (cases_lt other 94) (λ large huge same. code_within-differ bytes more (net / 94 - 1) (other / 94 - 1) (omega arith) (omega arith) same)
  where
    go : (net < 94) ⊎ (94 ≤ net) → (other < 94) ⊎ (94 ≤ other) → (94 ≤ net → 94 ≤ other → code_within bytes (net / 94 - 1) ≡ code_within more (other / 94 - 1) → net / 94 - 1 ≡ other / 94 - 1) → net ≡ other
    go (inl l) (inl k) rest =
        let both : (33 + net) ∷ [] ≡ (33 + other) ∷ [] = sym (code_within-last bytes net l) ∙ e ∙ code_within-last more other k in
        let same : 33 + net ≡ 33 + other = heads _ _ _ _ both in omega arith
    go (inl l) (inr k) rest =
        let both : (33 + net) ∷ [] ≡ (33 + other % 94) ∷ code_within more (other / 94 - 1) = sym (code_within-last bytes net l) ∙ e ∙ code_within-more more other k in
        absurd (code_within-some more (other / 94 - 1) (omega arith) (sym (tails _ _ _ _ both)))
    go (inr l) (inl k) rest =
        let both : (33 + net % 94) ∷ code_within bytes (net / 94 - 1) ≡ (33 + other) ∷ [] = sym (code_within-more bytes net l) ∙ e ∙ code_within-last more other k in
        absurd (code_within-some bytes (net / 94 - 1) (omega arith) (tails _ _ _ _ both))
    go (inr l) (inr k) rest =
        let both : (33 + net % 94) ∷ code_within bytes (net / 94 - 1) ≡ (33 + other % 94) ∷ code_within more (other / 94 - 1) = sym (code_within-more bytes net l) ∙ e ∙ code_within-more more other k in
        let low : 33 + net % 94 ≡ 33 + other % 94 = heads _ _ _ _ both in
        let high : net / 94 - 1 ≡ other / 94 - 1 = rest l k (tails _ _ _ _ both) in
        omega arith

-- more room for bytes changes nothing
code_within-enough : (bytes more net : ℕ) → net < bytes → net < more → code_within bytes net ≡ code_within more net
code_within-enough zero more net a b = absurd (omega arith)
code_within-enough (suc bytes) zero net a b = absurd (omega arith)
code_within-enough (suc bytes) (suc more) net a b =
    go (cases_lt net 94) (λ large. code_within-enough bytes more (net / 94 - 1) (omega arith) (omega arith))
  where
    go : (net < 94) ⊎ (94 ≤ net) → (94 ≤ net → code_within bytes (net / 94 - 1) ≡ code_within more (net / 94 - 1)) → code_within (suc bytes) net ≡ code_within (suc more) net
    go (inl l) rest = code_within-last bytes net l ∙ sym (code_within-last more net l)
    go (inr l) rest = code_within-more bytes net l ∙ ap (λ bs. (33 + net % 94) ∷ bs) (rest l) ∙ sym (code_within-more more net l)

-- the two equations of a code
pub code-below : (net : ℕ) → net < 94 → code net ≡ (33 + net) ∷ []
unfolding code
code-below net h = code_within-last net net h

pub code-from : (net : ℕ) → 94 ≤ net → code net ≡ (33 + net % 94) ∷ code (net / 94 - 1)
unfolding code
code-from net h = code_within-more net net h ∙ ap (λ bs. (33 + net % 94) ∷ bs) (code_within-enough net (suc (net / 94 - 1)) (net / 94 - 1) (omega arith) (omega arith))

pub code-differs : (net other : ℕ) → code net ≡ code other → net ≡ other
unfolding code
code-differs net other e = code_within-differ (suc net) (suc other) net other (omega arith) (omega arith) e

-- codes of one, two and three digits
pub code-one : (net : ℕ) → net < 94 → (33 + net % 94) ∷ [] ≡ code net
code-one net h = let same : net % 94 ≡ net = omega arith in rw same (sym (code-below net h))

pub code-two : (net : ℕ) → 94 ≤ net → net / 94 - 1 < 94 → (33 + net % 94) ∷ (33 + (net / 94 - 1) % 94) ∷ [] ≡ code net
code-two net h k = ap (λ bs. (33 + net % 94) ∷ bs) (code-one (net / 94 - 1) k) ∙ sym (code-from net h)

pub code-three : (net : ℕ) → 94 ≤ net → 94 ≤ net / 94 - 1 → (net / 94 - 1) / 94 - 1 < 94 → (33 + net % 94) ∷ (33 + (net / 94 - 1) % 94) ∷ (33 + ((net / 94 - 1) / 94 - 1) % 94) ∷ [] ≡ code net
code-three net h k m = ap (λ bs. (33 + net % 94) ∷ bs) (code-two (net / 94 - 1) k m) ∙ sym (code-from net h)
