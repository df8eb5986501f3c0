-- A set of numbers and the set of its words that aren't empty.
use Rattle.std.proofs.Common.{◌≡◌, ◌≢◌, ℕ, ◌+◌, ◌-◌, ◌*◌, ◌/◌, ◌%◌, ◌<◌, ◌≤◌, ◌⊎◌, inl, inr, true, false, not, Option, Some, None, MatchOption, ◌==◌, List, length, get_or, refl, sym, ap, subst, ◌∙◌, arith}
use Rattle.std.proofs.lemmas.Bool.{cases_eq, cases_lt, eqb-true, eq-eqb, ne_eqb, false≢true, not-false, eqb-false}
use Rattle.std.proofs.lemmas.List.{get_or_past}
use Rattle.std.proofs.lemmas.Nat.Bits.{bit_at-zero}
use Rattle.std.specs.Prelude.{IfNone}
use Rattle.cmb_words.specs.Bits.{is_set_at}
use Rattle.cmb_engine.specs.Inner.Batches.{IsNextWord, IsSetAt, IsTaken}
use Rattle.cmb_engine.specs.Inner.Bits.{has, HasNone, IsNext, Inserts, Lessens}
use Rattle.cmb_engine.specs.Inner.Flags.{is_flagged, Clears, IsNextFlag, IsSummary, NoFlags, Sets}
use Rattle.cmb_engine.specs.declared.walk.Walk.{Walk}
use Rattle.cmb_engine.specs.Inner.Walks.{walked}

-- a word that is zero has no number
pub has-zero_word : (words : List ℕ) (m : ℕ) → get_or words (m / 64) 0 ≡ 0 → has words m ≡ false
unfolding has
has-zero_word words m none = rw (none, bit_at-zero (m % 64)) refl

-- a number that is in the set is in one of its words
pub has-inside : (words : List ℕ) (m : ℕ) → has words m ≡ true → m / 64 < length words
has-inside words m is = go (cases_lt (m / 64) (length words))
  where
    go : (m / 64 < length words) ⊎ (length words ≤ m / 64) → m / 64 < length words
    go (inl l) = l
    go (inr l) = absurd (false≢true (sym (has-zero_word words m (get_or_past words (m / 64) 0 l)) ∙ is))

-- a word has fewer numbers, and its bit stays where it has some
pub summary-less : (low new high : List ℕ) (k : ℕ) → IsSummary low high → Lessens low new k → (get_or new k 0 == 0) ≡ false → IsSummary new high
summary-less low new high k old less some =
    record { room = omega (arith, old.room, less.len); summed = λ m. at m (cases_eq m k) }
  where
    at : (m : ℕ) → (m ≡ k) ⊎ (m ≡ k → ⊥) → is_flagged high m ≡ not (get_or new m 0 == 0)
    at m (inl e) =
        let left : (get_or low k 0 == 0) ≡ false = ne_eqb _ _ (λ z. eqb-false _ _ some (omega (arith, less.less, z))) in
        let now : is_flagged high m ≡ true = old.summed m ∙ ap (λ i. not (get_or low i 0 == 0)) e ∙ ap not left in
        now ∙ sym (ap (λ i. not (get_or new i 0 == 0)) e ∙ ap not some)
    at m (inr e) = rw (less.others m e) (old.summed m)

-- and where it has none its bit goes
pub summary-gone : (low new high sums : List ℕ) (k : ℕ) → IsSummary low high → Lessens low new k → Clears high sums k → (get_or new k 0 == 0) ≡ true → IsSummary new sums
summary-gone low new high sums k old less above none =
    record { room = omega (arith, old.room, less.len, above.len); summed = λ m. at m (cases_eq m k) }
  where
    at : (m : ℕ) → (m ≡ k) ⊎ (m ≡ k → ⊥) → is_flagged sums m ≡ not (get_or new m 0 == 0)
    at m (inl e) =
        let here : (m == k) ≡ true = eq-eqb _ _ e in
        let gone : is_flagged sums m ≡ false = rw here at (above.members m) in
        gone ∙ sym (ap (λ i. not (get_or new i 0 == 0)) e ∙ ap not none)
    at m (inr e) =
        let here : (m == k) ≡ false = ne_eqb _ _ e in
        let same : is_flagged sums m ≡ is_flagged high m = rw here at (above.members m) in
        same ∙ rw (less.others m e) (old.summed m)

-- the marks of a level in a word are taken out
pub marks-taken : (old new : List ℕ) (from first end places : ℕ) → IsNext old from first → first % 64 < end → end ≤ 64 → length new ≡ length old
    → ((m : ℕ) → has old m ≡ true → has new m ≡ false → IsSetAt (64 * (first / 64)) places m)
    → ((place : ℕ) → place < 64 → first % 64 ≤ place → place < end → has old (64 * (first / 64) + place) ≡ true → is_set_at places place ≡ true)
    → (upto : ℕ) → upto ≡ 64 * (first / 64) + end → IsTaken old new from upto (64 * (first / 64)) places
marks-taken old new from first end places next late fits len left taken upto is =
    let inside : first / 64 < length old = has-inside old first next.member in
    record {
      on = omega (arith, next.from, late, is);
      within = omega (arith, inside, fits, is);
      room = len;
      left = left;
      passed = λ m k l h. at m k l h (cases_lt m first);
    }
  where
    at : (m : ℕ) → from ≤ m → m < upto → has old m ≡ true → (m < first) ⊎ (first ≤ m) → IsSetAt (64 * (first / 64)) places m
    at m k l h (inl before) = absurd (false≢true (sym (next.least m k before) ∙ h))
    at m k l h (inr behind) =
        let e : m ≡ 64 * (first / 64) + (m - 64 * (first / 64)) = omega (arith, behind) in
        record {
          place = m - 64 * (first / 64);
          small = omega (arith, l, is, fits, behind);
          set = taken (m - 64 * (first / 64)) (omega (arith, l, is, fits, behind)) (omega (arith, behind)) (omega (arith, l, is, behind)) (ap (has old) (sym e) ∙ h);
          is = e;
        }

pub summary-insert : (low new high sums : List ℕ) (n : ℕ) → IsSummary low high → Inserts low new n → Sets high sums (n / 64) → IsSummary new sums
summary-insert low new high sums n old insert above =
    record { room = omega (arith, old.room, insert.len, above.len); summed = λ k. at k (cases_eq k (n / 64)) }
  where
    at : (k : ℕ) → (k ≡ n / 64) ⊎ (k ≡ n / 64 → ⊥) → is_flagged sums k ≡ not (get_or new k 0 == 0)
    at k (inl e) =
        let here : (k == n / 64) ≡ true = eq-eqb _ _ e in
        let some : (get_or new k 0 == 0) ≡ false = ne_eqb _ _ (λ z. insert.some (ap (λ i. get_or new i 0) (sym e) ∙ z)) in
        rw (above.members k, here, some) refl
    at k (inr e) =
        let here : (k == n / 64) ≡ false = ne_eqb _ _ e in
        rw (above.members k, here, insert.others k e) (old.summed k)

pub summary-new : (low high : List ℕ) → length low ≤ length high → ((k : ℕ) → get_or low k 0 ≡ 0) → ((m : ℕ) → is_flagged high m ≡ false) → IsSummary low high
summary-new low high room zeros none =
    record { room = room; summed = λ k. none k ∙ sym (ap not (eq-eqb (get_or low k 0) 0 (zeros k))) }

module _ (low high : List ℕ) (sum : IsSummary low high) where
  -- a word whose bit is clear has no number
  no_word : (m : ℕ) → is_flagged high (m / 64) ≡ false → has low m ≡ false
  no_word m none = has-zero_word low m (eqb-true _ _ (not-false _ (sym (sum.summed (m / 64)) ∙ none)))

  pub marks-none : (w n : ℕ) → HasNone low n (64 * w + 64) → NoFlags high (w + 1) (length high) → HasNone low n (64 * length low)
  marks-none w n here above m from below = go (cases_lt m (64 * w + 64))
    where
      go : (m < 64 * w + 64) ⊎ (64 * w + 64 ≤ m) → has low m ≡ false
      go (inl l) = here m from l
      go (inr l) = no_word m (above (m / 64) (omega arith) (omega (arith, sum.room)))

  marks-next : (w n k found : ℕ) → n ≤ 64 * w + 64 → HasNone low n (64 * w + 64) → IsNextFlag high (w + 1) k → IsNext low (64 * k) found → IsNext low n found
  marks-next w n k found at here above next =
      record { from = omega (arith, at, above.from, next.from); member = next.member; least = λ m from below. go m from below (cases_lt m (64 * w + 64)) (cases_lt m (64 * k)) }
    where
      go : (m : ℕ) → n ≤ m → m < found → (m < 64 * w + 64) ⊎ (64 * w + 64 ≤ m) → (m < 64 * k) ⊎ (64 * k ≤ m) → has low m ≡ false
      go m from below (inl l) _ = here m from l
      go m from below (inr l) (inl j) = no_word m (above.least (m / 64) (omega arith) (omega arith))
      go m from below (inr l) (inr j) = next.least m j below

  -- words up to one whose bits are clear have no number
  pub marks-empty : (from upto bound : ℕ) → NoFlags high from upto → bound ≤ 64 * upto → HasNone low (64 * from) bound
  marks-empty from upto bound none within m late below = no_word m (none (m / 64) (omega (arith, late)) (omega (arith, below, within)))

  -- nor has any word, where no bit is set from one on
  pub marks-end : (from bound : ℕ) → NoFlags high from (length high) → HasNone low (64 * from) bound
  marks-end from bound none m late below = go (cases_lt (m / 64) (length low))
    where
      go : (m / 64 < length low) ⊎ (length low ≤ m / 64) → has low m ≡ false
      go (inl l) = no_word m (none (m / 64) (omega (arith, late)) (omega (arith, l, sum.room)))
      go (inr l) = has-zero_word low m (get_or_past low (m / 64) 0 l)

  -- a word whose bit is set isn't zero, and is there
  marks-word : (n k : ℕ) → IsNextFlag high n k → get_or low k 0 ≢ 0
  marks-word n k next none = false≢true (sym (ap not (eq-eqb (get_or low k 0) 0 none)) ∙ sym (sum.summed k) ∙ next.member)

  pub marks-room : (n k : ℕ) → IsNextFlag high n k → k < length low
  marks-room n k next = go (cases_lt k (length low))
    where
      go : (k < length low) ⊎ (length low ≤ k) → k < length low
      go (inl l) = l
      go (inr l) = absurd (marks-word n k next (get_or_past low k 0 l))

  -- the numbers of the word whose bit is the next one
  pub marks-next_word : (from k upto : ℕ) → IsNextFlag high from k → upto ≡ k + 1 → IsNextWord low from upto (64 * k) (get_or low k 0)
  unfolding has is_set_at
  marks-next_word from k upto next is = record {
    on = omega (arith, next.from, is);
    within = omega (arith, marks-room from k next, is);
    ends = omega (arith, is);
    none = marks-empty from k (64 * k) next.least (omega arith);
    members = λ place small.
        let at : (64 * k + place) / 64 ≡ k = omega (arith, small) in
        let rest : (64 * k + place) % 64 ≡ place = omega (arith, small) in
        rw (at, rest) refl;
  }

  -- what the word tells whose bit is the next one
  pub marks-in_word : (w n k : ℕ) → n ≤ 64 * w + 64 → HasNone low n (64 * w + 64) → IsNextFlag high (w + 1) k → (at after : Walk) → at.word ≡ k → walked at ≡ 64 * k
      → (found : Option ℕ)
      → MatchOption found (HasNone low (walked at) (64 * at.word + 64) × (after ≡ at)) (λ m. IsNext low (walked at) m × (walked after ≡ m + 1))
      → (walked at ≡ 64 * at.word → IfNone found (get_or low at.word 0 ≡ 0))
      → MatchOption found (HasNone low n (64 * length low)) (λ m. IsNext low n m × (walked after ≡ m + 1))
  marks-in_word w n k fits here above at after word begin (Some m) next empty =
      (marks-next w n k m fits here above (subst (λ (i : ℕ). IsNext low i m) begin next.0), next.1)
  marks-in_word w n k fits here above at after word begin None next empty =
      absurd (marks-word (w + 1) k above (ap (λ i. get_or low i 0) (sym word) ∙ empty (begin ∙ ap (λ i. 64 * i) (sym word))))
