-- What reading on does to known bytes.
use Rattle.std.proofs.Common.{◌≡◌, ℕ, ◌<◌, ◌≤◌, List, [], ◌++◌, None, Some, Option, ap, ◌∙◌, arith, length, length-append, append-nil, take, subst, sym}
use Rattle.std.specs.Io.KnownBytes.{Consumes, IsAtEnd}
use Rattle.std.proofs.KnownBytes.{Consumes-trans}
use Rattle.cmb_io.specs.Sources.{AreAll, IsWhole, IsTooLong, input_limit}

-- what was read up to the end is all that there was
pub AreAll-at_end : (a b : Option (List ℕ)) (xs : List ℕ) → Consumes a b xs → IsAtEnd b → AreAll a xs
AreAll-at_end None b xs p e = tt
AreAll-at_end (Some all) None xs p e = absurd p
AreAll-at_end (Some all) (Some rest) xs p e =
    let same : all ≡ xs = p ∙ ap (λ l. xs ++ l) e ∙ append-nil xs in
    sym same

-- more was read than an input may have
pub IsTooLong-of : (a b : Option (List ℕ)) (xs : List ℕ) → Consumes a b xs → input_limit < length xs → IsTooLong a
IsTooLong-of None b xs p more = tt
IsTooLong-of (Some all) None xs p more = absurd p
IsTooLong-of (Some all) (Some rest) xs p more = omega (arith, ap length p, length-append xs rest)

-- what a source gave so far, and then the front of a buffer
pub Consumes-more : (a b c : Option (List ℕ)) (text front text' : List ℕ) → Consumes a b text → Consumes b c front → text' ≡ text ++ front → Consumes a c text'
Consumes-more a b c text front text' p q e = subst (Consumes a c) (sym e) (Consumes-trans a b c text front p q)

-- a read that gave nothing at the end adds nothing
pub IsWhole-after : (a b c : Option (List ℕ)) (xs buf : List ℕ) (n : ℕ)
    → Consumes a b xs → Consumes b c (take n buf) → n ≡ 0 → IsAtEnd c → length xs ≤ input_limit → IsWhole a xs
IsWhole-after a b c xs buf n p q none e small =
    let all : take n buf ≡ [] = ap (λ k. take k buf) none in
    let q' : Consumes b c [] = subst (Consumes b c) all q in
    let r : Consumes a c xs = subst (Consumes a c) (append-nil xs) (Consumes-trans a b c xs [] p q') in
    record { all = AreAll-at_end a c xs r e; fits = small }
