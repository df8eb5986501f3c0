-- Where a name is cut.
use Rattle.std.proofs.Common.{◌≡◌, ℕ, ◌+◌, ◌<◌, ◌≤◌, Bool, true, false, List, [], ◌∷◌, ◌++◌, Some, None, length, take, drop, refl, sym, ap, ◌∙◌, arith, append_assoc}
use Rattle.std.specs.Prelude.{◌==◌, nat_lt, position}
use Rattle.std.specs.List.{position_or_len, slice_split}
use Rattle.std.proofs.lemmas.List.Splits.{slice_split_first}
use Rattle.cmb_run_scopes.specs.Scopes.{pieces}

abbrev is_dot : ℕ → Bool
is_dot byte = byte == 46

-- without a dot there is one piece
undotted : (bytes : List ℕ) → length bytes ≤ position_or_len is_dot bytes → slice_split is_dot bytes ≡ bytes ∷ []
undotted [] h = refl
undotted (byte ∷ bytes) h = by (undotted bytes) (is_dot byte) refl
  where
    by : (length bytes ≤ position_or_len is_dot bytes → slice_split is_dot bytes ≡ bytes ∷ []) → (b : Bool) → is_dot byte ≡ b → slice_split is_dot (byte ∷ bytes) ≡ (byte ∷ bytes) ∷ []
    by later true e = absurd (let h' : length (byte ∷ bytes) ≤ 0 = rw e at h in omega arith)
    by later false e =
        let h' : length (byte ∷ bytes) ≤ 1 + position_or_len is_dot bytes = rw e at h in
        rw (e, later (omega arith))

pub pieces-dot : (bytes : List ℕ) (dot : ℕ) → Some dot ≡ position is_dot bytes → (dot < length bytes) × (pieces bytes ≡ take dot bytes ∷ pieces (drop (dot + 1) bytes))
pieces-dot bytes dot found = by (nat_lt (position_or_len is_dot bytes) (length bytes)) refl
  where
    by : (b : Bool) → nat_lt (position_or_len is_dot bytes) (length bytes) ≡ b → (dot < length bytes) × (pieces bytes ≡ take dot bytes ∷ pieces (drop (dot + 1) bytes))
    by true e =
        let at : Some dot ≡ Some (position_or_len is_dot bytes) = rw e at found in
        let same : dot ≡ position_or_len is_dot bytes = cc in
        let below : position_or_len is_dot bytes < length bytes = grind (arith, e) in
        (omega arith, rw same (slice_split_first is_dot bytes 0 below))
    by false e = let at : Some dot ≡ None = rw e at found in absurd (cc)

pub pieces-none : (bytes : List ℕ) → None ≡ position is_dot bytes → pieces bytes ≡ bytes ∷ []
pieces-none bytes found = by (nat_lt (position_or_len is_dot bytes) (length bytes)) refl
  where
    by : (b : Bool) → nat_lt (position_or_len is_dot bytes) (length bytes) ≡ b → pieces bytes ≡ bytes ∷ []
    by true e = let at : None ≡ Some (position_or_len is_dot bytes) = rw e at found in absurd (cc)
    by false e = undotted bytes (grind (arith, e))

-- a piece more
pub pieces-more : (parts : List (List ℕ)) (rest : List ℕ) (dot : ℕ) (new : List (List ℕ)) (all : List (List ℕ)) → Some dot ≡ position is_dot rest → new ≡ parts ++ take dot rest ∷ []
    → parts ++ pieces rest ≡ all → new ++ pieces (drop (dot + 1) rest) ≡ all
pieces-more parts rest dot new all found pushed so_far =
    let cut = (pieces-dot rest dot found).1 in
    rw (pushed, append_assoc) (ap (λ p. parts ++ p) (sym cut) ∙ so_far)
