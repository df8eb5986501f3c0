-- Words in two planes.
use Rattle.std.proofs.Common.{◌≡◌, ◌≢◌, ℕ, zero, suc, ◌<◌, ◌⊎◌, inl, inr, Bool, true, false, List, [], ◌∷◌, length, get_or, set, replicate, refl, sym, ap, ap₂, subst, ◌∙◌, arith}
use Rattle.std.proofs.lemmas.Bool.{cases_eq, false≢true}
use Rattle.std.proofs.lemmas.List.{get_or-set_other, get_or-set_same, length-replicate, length-set, set-get_or}
use Rattle.std.proofs.lemmas.Nat.Bits.{bit_at-zero}
use Rattle.cmb_words.specs.Bits.{Apart}
use Rattle.cmb_engine.specs.Inner.Known.{known_planes}
use Rattle.cmb_engine.specs.Inner.Planes.{AreWords, Planes, planes_in}

pub planes-length : (ones unknown : List ℕ) → length unknown ≡ length ones → length (planes_in ones unknown) ≡ length ones
planes-length [] unknown same = refl
planes-length (mask ∷ ones) [] same = absurd (omega (arith, same))
planes-length (mask ∷ ones) (other ∷ unknown) same = ap suc (planes-length ones unknown (omega (arith, same)))

pub planes-get : (ones unknown : List ℕ) (slot : ℕ) (d : Planes) → length unknown ≡ length ones → slot < length ones
    → get_or (planes_in ones unknown) slot d ≡ record { ones = get_or ones slot 0; unknown = get_or unknown slot 0 }
planes-get [] unknown slot d same h = absurd (omega (arith, h))
planes-get (mask ∷ ones) [] slot d same h = absurd (omega (arith, same))
planes-get (mask ∷ ones) (other ∷ unknown) zero d same h = refl
planes-get (mask ∷ ones) (other ∷ unknown) (suc slot) d same h = planes-get ones unknown slot d (omega (arith, same)) (omega (arith, h))

pub planes-set : (ones unknown : List ℕ) (slot mask other : ℕ) → length unknown ≡ length ones
    → planes_in (set ones slot mask) (set unknown slot other) ≡ set (planes_in ones unknown) slot (record { ones = mask; unknown = other })
planes-set [] unknown slot mask other same = refl
planes-set (m ∷ ones) [] slot mask other same = absurd (omega (arith, same))
planes-set (m ∷ ones) (o ∷ unknown) zero mask other same = refl
planes-set (m ∷ ones) (o ∷ unknown) (suc slot) mask other same =
    ap (λ (rest : List Planes). record { ones = m; unknown = o } ∷ rest) (planes-set ones unknown slot mask other (omega (arith, same)))

-- where no level is x, the second plane stays as it is
pub planes-set_known : (ones unknown : List ℕ) (slot mask : ℕ) → length unknown ≡ length ones → get_or unknown slot 0 ≡ 0
    → planes_in (set ones slot mask) unknown ≡ set (planes_in ones unknown) slot (record { ones = mask; unknown = 0 })
planes-set_known ones unknown slot mask same none =
    ap (planes_in (set ones slot mask)) (sym (ap (set unknown slot) (sym none) ∙ set-get_or unknown slot 0))
    ∙ planes-set ones unknown slot mask 0 same

pub planes-replicate : (count mask other : ℕ) → planes_in (replicate count mask) (replicate count other) ≡ replicate count (record { ones = mask; unknown = other })
planes-replicate zero mask other = refl
planes-replicate (suc count) mask other = ap (λ (rest : List Planes). record { ones = mask; unknown = other } ∷ rest) (planes-replicate count mask other)

-- a slot is given other planes
apart-at : (ones unknown : List ℕ) (slot mask other at : ℕ) → length unknown ≡ length ones → slot < length ones → Apart mask other
    → Apart (get_or ones at 0) (get_or unknown at 0) → (at ≡ slot) ⊎ (at ≢ slot) → Apart (get_or (set ones slot mask) at 0) (get_or (set unknown slot other) at 0)
apart-at ones unknown slot mask other at same inside apart old (inl is) place small =
    rw (is, get_or-set_same ones slot mask 0 inside, get_or-set_same unknown slot other 0 (omega (arith, inside, same))) (apart place small)
apart-at ones unknown slot mask other at same inside apart old (inr differs) place small =
    rw (get_or-set_other ones slot at mask 0 differs, get_or-set_other unknown slot at other 0 differs) (old place small)

pub words-set : (ones unknown : List ℕ) (known : Bool) (slot mask other : ℕ) → slot < length ones → Apart mask other → AreWords ones unknown known
    → AreWords (set ones slot mask) (set unknown slot other) false
words-set ones unknown known slot mask other inside apart words = record {
  same = length-set unknown slot other ∙ words.same ∙ sym (length-set ones slot mask);
  apart = λ at. apart-at ones unknown slot mask other at words.same inside apart (words.apart at) (cases_eq at slot);
  clear = λ is. absurd (false≢true is);
}

pub words-set_known : (ones unknown : List ℕ) (known : Bool) (slot mask : ℕ) → slot < length ones → known ≡ true → Apart mask 0 → AreWords ones unknown known
    → AreWords (set ones slot mask) unknown known
words-set_known ones unknown known slot mask inside is apart words =
    let none : get_or unknown slot 0 ≡ 0 = words.clear is slot in
    let stays : set unknown slot 0 ≡ unknown = ap (set unknown slot) (sym none) ∙ set-get_or unknown slot 0 in
    let more : AreWords (set ones slot mask) (set unknown slot 0) false = words-set ones unknown known slot mask 0 inside apart words in
    record {
      same = words.same ∙ sym (length-set ones slot mask);
      apart = λ at. subst (λ (us : List ℕ). Apart (get_or (set ones slot mask) at 0) (get_or us at 0)) stays (more.apart at);
      clear = words.clear;
    }

apart-replicate : (count mask other slot : ℕ) → Apart mask other → Apart (get_or (replicate count mask) slot 0) (get_or (replicate count other) slot 0)
apart-replicate zero mask other slot apart = λ place small. rw bit_at-zero (omega arith)
apart-replicate (suc count) mask other zero apart = apart
apart-replicate (suc count) mask other (suc slot) apart = apart-replicate count mask other slot apart

pub words-replicate : (count mask other : ℕ) → Apart mask other → AreWords (replicate count mask) (replicate count other) false
words-replicate count mask other apart = record {
  same = length-replicate count other ∙ sym (length-replicate count mask);
  apart = λ slot. apart-replicate count mask other slot apart;
  clear = λ is. absurd (false≢true is);
}

-- a slot of the words is one of both planes
pub inside-ones : (ones unknown : List ℕ) (words : List Planes) (slot : ℕ) → planes_in ones unknown ≡ words → length unknown ≡ length ones → slot < length words → slot < length ones
inside-ones ones unknown words slot is same h = omega (arith, h, ap length is, planes-length ones unknown same)

-- where no level is x the first plane says all
pub planes-known : (ones unknown : List ℕ) → length unknown ≡ length ones → ((slot : ℕ) → get_or unknown slot 0 ≡ 0) → planes_in ones unknown ≡ known_planes ones
planes-known [] unknown same clear = refl
planes-known (mask ∷ ones) [] same clear = absurd (omega (arith, same))
planes-known (mask ∷ ones) (other ∷ unknown) same clear =
    ap₂ (λ (o : ℕ) (rest : List Planes). record { ones = mask; unknown = o } ∷ rest) (clear 0) (planes-known ones unknown (omega (arith, same)) (λ slot. clear (suc slot)))

-- there are as many ones as words
pub as-many : (words : List Planes) (ones unknown items : List ℕ) → items ≡ ones → length unknown ≡ length ones → planes_in ones unknown ≡ words → length items ≡ length words
as-many words ones unknown items value same is = ap length value ∙ sym (planes-length ones unknown same) ∙ ap length is
