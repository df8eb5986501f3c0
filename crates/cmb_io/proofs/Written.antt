-- What writing on does to known bytes.
use Rattle.std.proofs.Common.{◌≡◌, ℕ, ◌+◌, ◌-◌, List, zero, suc, Ok, Option, refl, length, take, drop, subst, sym}
use Rattle.std.specs.Io.KnownBytes.{Appends}
use Rattle.std.proofs.KnownBytes.{Appends-trans}
use Rattle.std.proofs.lemmas.List.{take_rest}
use Rattle.std.proofs.Math.Seq.{take-add}
use Rattle.cmb_io.specs.Ends.{write_failures}

-- a sink took the front of a text, and then the front of the rest
pub Appends-more : (a b c : Option (List ℕ)) (text : List ℕ) (done count : ℕ)
    → Appends a b (take done text) → Appends b c (take count (take (length text - done) (drop done text))) → Appends a c (take (done + count) text)
Appends-more a b c text done count p q =
    let q' : Appends b c (take count (drop done text)) = rw take_rest at q in
    subst (Appends a c) (sym (take-add done count text)) (Appends-trans a b c _ _ p q')

-- a write that took some didn't fail
pub write_failures-some : (n : ℕ) (text : List ℕ) → (n ≡ 0 → ⊥) → write_failures (Ok n) text ≡ 0
write_failures-some zero text some = absurd (some refl)
write_failures-some (suc n) text some = refl
