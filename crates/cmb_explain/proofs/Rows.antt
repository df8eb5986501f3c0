-- Lines of a text that grows at its end.
use Rattle.std.proofs.Common.{◌≡◌, ℕ, ◌<◌, ◌≤◌, ◌+◌, ◌⊎◌, List, [], ◌++◌, refl, arith, append_assoc, append-nil, inl, inr, true, false}
use Rattle.std.proofs.lemmas.Bool.{cases_lt, false≢true}
use Rattle.cmb_explain.specs.Known.{IsFaultNumber, place_of}
use Rattle.cmb_explain.specs.Listed.{HasRow, row, word_of}

-- a list with something in it, and more behind it
regroup : (a b c d : List ℕ) → (a ++ (b ++ c)) ++ d ≡ a ++ (b ++ (c ++ d))
regroup a b c d = rw (append_assoc a (b ++ c) d, append_assoc b c d) refl

pub kept : (text more : List ℕ) (n : ℕ) → HasRow text n → HasRow (text ++ more) n
kept text more n has = record {
  before = has.before;
  meaning = has.meaning;
  after = has.after ++ more;
  whole = rw (has.whole) (regroup has.before _ has.after more);
}

pushed : (text meaning : List ℕ) (n : ℕ) → HasRow (text ++ row n (word_of (place_of n)) meaning) n
pushed text meaning n = record {
  before = text;
  meaning = meaning;
  after = [];
  whole = rw (append-nil (row n (word_of (place_of n)) meaning)) refl;
}

-- the line of one more fault
pub one_more : (n : ℕ) (old meaning : List ℕ) → ((k : ℕ) → k < n → IsFaultNumber k → HasRow old k) → (k : ℕ) → k < n + 1 → IsFaultNumber k → HasRow (old ++ row n (word_of (place_of n)) meaning) k
one_more n old meaning before k below known = go (cases_lt k n)
  where
    go : (k < n) ⊎ (n ≤ k) → HasRow (old ++ row n (word_of (place_of n)) meaning) k
    go (inl less) = kept old _ k (before k less known)
    go (inr most) = let same : k ≡ n = omega arith in rw (same) (pushed old meaning n)

-- where there is no fault with the next number
pub no_more : (n : ℕ) (text : List ℕ) → ((k : ℕ) → k < n → IsFaultNumber k → HasRow text k) → (IsFaultNumber n → false ≡ true) → (k : ℕ) → k < n + 1 → IsFaultNumber k → HasRow text k
no_more n text before none k below known = go (cases_lt k n)
  where
    go : (k < n) ⊎ (n ≤ k) → HasRow text k
    go (inl less) = before k less known
    go (inr most) = let same : k ≡ n = omega arith in absurd (false≢true (none (rw (same) at known)))
