-- What is added to a table of changes, and taken out of it.
use Rattle.std.proofs.Common.{◌≡◌, ◌∙◌, ◌⊎◌, inl, inr, ℕ, suc, ◌+◌, ◌-◌, ◌*◌, ◌/◌, ◌%◌, ◌^◌, ◌<◌, ◌≤◌, ◌==◌, ◌||◌, Bool, true, false, List, [], ◌∷◌, ◌++◌, length, get_or, set, replicate, ap, refl, sym, subst, arith}
use Rattle.std.specs.Prelude.{All, Contains, bit_or}
use Rattle.std.proofs.lemmas.Bool.{cases_eq, cases_lt, eq-eqb, false≢true, ne_eqb}
use Rattle.std.proofs.lemmas.List.{get_or-set_other, get_or-set_same, length-set}
use Rattle.std.proofs.lemmas.List.Elements.{All-push, Contains-append_left, Contains-append_right, Contains-push}
use Rattle.std.proofs.lemmas.List.Folds.{list_any-append}
use native.Mathlib.Bridge.{le_prop}
use Rattle.cmb_words.specs.Bits.{Apart, is_set_at, places_set}
use Rattle.cmb_words.specs.Changes.{RisesWithin, is_among}
use Rattle.cmb_words.specs.declared.changed.Changed.{Changed}
use Rattle.cmb_words.specs.declared.word.Word.{Word}
use Rattle.cmb_words.proofs.Rising.{rises-push, rises-wider}
use Rattle.cmb_engine.specs.Inner.Bits as bits
use Rattle.cmb_engine.proofs.BitFacts.{has-none, read-inserts}
use Rattle.cmb_engine.proofs.PlaceFacts.{AreLeft, IsNextPlace, left-all, left-behind, left-next, left-none}
use Rattle.cmb_shares.specs.Inner.Gatherings.{Adds, AreTaken, Holds, IsBlank, IsTable, Table, has, table_of}

-- ---- marks

-- marks are a set of numbers by bits
has-bits : (words : List Word) (marks : List ℕ) (net : ℕ) → has (table_of words marks) net ≡ bits.has marks net
unfolding has bits.has is_set_at
has-bits words marks net = refl

has-place : (table : Table) (k place : ℕ) → place < 64 → has table (64 * k + place) ≡ is_set_at (get_or table.marks k 0) place
unfolding has
has-place table k place small =
    let word : (64 * k + place) / 64 ≡ k = omega (arith, small) in
    let bit : (64 * k + place) % 64 ≡ place = omega (arith, small) in
    rw (word, bit) refl

pub blank : (words : List Word) (marks : List ℕ) (nets count : ℕ) → length words ≡ nets → marks ≡ replicate count 0 → IsBlank nets (table_of words marks)
blank words marks nets count len is = record {
  nets = len;
  none = λ net. has-bits words marks net ∙ ap (λ l. bits.has l net) is ∙ has-none count net;
}

pub blank-table : (words : List Word) (marks : List ℕ) → length words ≤ 2 ^ 16 → length words ≤ 64 * length marks → IsBlank (length words) (table_of words marks) → IsTable (table_of words marks)
blank-table words marks few room none = record {
  few = few;
  room = room;
  within = λ net is. absurd (false≢true (sym (none.none net) ∙ is));
}

-- ---- changes are added

among-one : (one : Changed) (net : ℕ) (b : Bool) → (net == one.net || b) ≡ (is_among net (one ∷ []) || b)
among-one one net b = by (cases_eq net one.net)
  where
    by : (net ≡ one.net) ⊎ (net ≡ one.net → ⊥) → (net == one.net || b) ≡ (is_among net (one ∷ []) || b)
    by (inl e) = rw (eq-eqb net one.net e, eq-eqb one.net net (sym e)) refl
    by (inr n) = rw (ne_eqb net one.net n, ne_eqb one.net net (λ e. n (sym e))) refl

module _ (words : List Word) (marks : List ℕ) (one : Changed) (number : ℕ) (read : number ≡ get_or marks (one.net / 64) number) (is : IsTable (table_of words marks))
    (within : one.net < length words) where
  abbrev pub put_to : Table
  put_to = table_of (set words one.net one.word) (set marks (one.net / 64) (bit_or number (1 * 2 ^ (one.net % 64) % 2 ^ 64)))

  pub puts : Adds (one ∷ []) (table_of words marks) put_to
  puts = record {
    len = length-set words one.net one.word;
    marked = marked;
    each = λ other holds. each other holds (cases_eq other.net one.net);
  }
    where
      marked : (net : ℕ) → has put_to net ≡ (is_among net (one ∷ []) || has (table_of words marks) net)
      marked net =
          has-bits _ _ net ∙ (read-inserts marks marks refl one.net number read (omega (arith, within, is.room))).members net
          ∙ ap (λ b. net == one.net || b) (sym (has-bits words marks net)) ∙ among-one one net (has (table_of words marks) net)

      each : (other : Changed) → Holds put_to other → (other.net ≡ one.net) ⊎ (other.net ≡ one.net → ⊥) → Holds (table_of words marks) other ⊎ Contains (one ∷ []) other
      each other holds (inl e) =
          let word : one.word ≡ other.word = sym (get_or-set_same words one.net one.word one.word within) ∙ ap (λ n. get_or (set words one.net one.word) n one.word) (sym e) ∙ holds.word one.word in
          let same : one ≡ other = λ i. record { net = sym e i; word = word i } in
          inr (subst (λ c. Contains (one ∷ []) c) same (Contains-push [] one))
      each other holds (inr n) = inl (record {
        marked = sym (marked other.net ∙ ap (λ b. (b || false) || has (table_of words marks) other.net) (ne_eqb one.net other.net (λ e. n (sym e)))) ∙ holds.marked;
        word = λ d. sym (get_or-set_other words one.net other.net one.word d n) ∙ holds.word d;
      })

  pub puts-table : IsTable put_to
  puts-table = record {
    few = omega (arith, is.few, length-set words one.net one.word);
    room = omega (arith, is.room, length-set words one.net one.word, length-set marks (one.net / 64) (bit_or number (1 * 2 ^ (one.net % 64) % 2 ^ 64)));
    within = λ net marked. here net marked (cases_eq net one.net);
  }
    where
      here : (net : ℕ) → has put_to net ≡ true → (net ≡ one.net) ⊎ (net ≡ one.net → ⊥) → net < length (set words one.net one.word)
      here net marked (inl e) = omega (arith, e, within, length-set words one.net one.word)
      here net marked (inr n) =
          let was : has (table_of words marks) net ≡ true =
          sym (puts.marked net ∙ ap (λ b. (b || false) || has (table_of words marks) net) (ne_eqb one.net net (λ e. n (sym e)))) ∙ marked in
          omega (arith, is.within net was, length-set words one.net one.word)

pub adds-more : (changes : List Changed) (one : Changed) (first old new : Table) → Adds changes first old → Adds (one ∷ []) old new → Adds (changes ++ one ∷ []) first new
adds-more changes one first old new before now = record {
  len = now.len ∙ before.len;
  marked = λ net.
      now.marked net ∙ ap (λ b. is_among net (one ∷ []) || b) (before.marked net)
      ∙ turned (is_among net (one ∷ [])) (is_among net changes) (has first net)
      ∙ ap (λ b. b || has first net) (sym (list_any-append (λ (c : Changed). c.net == net) changes (one ∷ [])));
  each = λ other holds. from other (now.each other holds);
}
  where
    turned : (a b c : Bool) → (a || (b || c)) ≡ ((b || a) || c)
    turned true true c = refl
    turned true false c = refl
    turned false true c = refl
    turned false false c = refl

    earlier : (other : Changed) → Holds first other ⊎ Contains changes other → Holds first other ⊎ Contains (changes ++ one ∷ []) other
    earlier other (inl h) = inl h
    earlier other (inr h) = inr (Contains-append_left changes (one ∷ []) other h)

    from : (other : Changed) → Holds old other ⊎ Contains (one ∷ []) other → Holds first other ⊎ Contains (changes ++ one ∷ []) other
    from other (inl h) = earlier other (before.each other h)
    from other (inr h) = inr (Contains-append_right changes (one ∷ []) other h)

-- a word with the planes of another one is that one
pub same-word : (word : Word) (apart : Apart word.ones word.unknown) → record { ones = word.ones; unknown = word.unknown; apart = apart } ≡ word
same-word word apart = λ i. record { ones = word.ones; unknown = word.unknown; apart = λ place small. le_prop (apart place small) (word.apart place small) i }

-- ---- the marked nets are taken, one after another

module _ (table : Table) where
  -- the next nets aren't marked
  pub taken-passes : (from upto : ℕ) (changes : List Changed) → from ≤ upto → ((net : ℕ) → from ≤ net → net < upto → has table net ≡ false) → AreTaken table from changes → AreTaken table upto changes
  taken-passes from upto changes later none are = record {
    rises = rises-wider 0 from upto changes are.rises later;
    each = are.each;
    whole = λ net below is. by net below is (cases_lt net from);
  }
    where
      by : (net : ℕ) → net < upto → has table net ≡ true → (net < from) ⊎ (from ≤ net) → is_among net changes ≡ true
      by net below is (inl l) = are.whole net l is
      by net below is (inr l) = absurd (false≢true (sym (none net l below) ∙ is))

  -- the next net is
  pub taken-push : (changes : List Changed) (one : Changed) → Holds table one → AreTaken table one.net changes → AreTaken table (one.net + 1) (changes ++ one ∷ [])
  taken-push changes one holds are = record {
    rises = rises-push 0 one.net (one.net + 1) changes one are.rises (omega arith) (omega arith) (omega arith);
    each = All-push (Holds table) changes one are.each holds;
    whole = λ net below is. list_any-append (λ (c : Changed). c.net == net) changes (one ∷ []) ∙ by net below is (cases_lt net one.net);
  }
    where
      by : (net : ℕ) → net < one.net + 1 → has table net ≡ true → (net < one.net) ⊎ (one.net ≤ net) → (is_among net changes || is_among net (one ∷ [])) ≡ true
      by net below is (inl l) = ap (λ b. b || is_among net (one ∷ [])) (are.whole net l is)
      by net below is (inr l) = ap (λ b. is_among net changes || (b || false)) (eq-eqb one.net net (omega (arith, l, below))) ∙ or-true (is_among net changes)
        where
          or-true : (b : Bool) → (b || true) ≡ true
          or-true true = refl
          or-true false = refl

  rises-below : (low bound nets : ℕ) (changes : List Changed) → RisesWithin low bound changes → All (λ one. one.net < nets) changes → RisesWithin low nets changes
  rises-below low bound nets [] rises below = tt
  rises-below low bound nets (c ∷ cs) rises below = (rises.0, below 0 c (omega arith), rises-below (suc c.net) bound nets cs rises.2 (λ k d h. below (suc k) d (omega (arith, h))))

  pub taken-all : (bound : ℕ) (changes : List Changed) → IsTable table → length table.words ≤ bound → AreTaken table bound changes → AreTaken table (length table.words) changes
  taken-all bound changes is most are = record {
    rises = rises-below 0 bound (length table.words) changes are.rises (λ k d h. is.within (get_or changes k d).net (are.each k d h).marked);
    each = are.each;
    whole = λ net below marked. are.whole net (omega (arith, below, most)) marked;
  }

-- the nets of a number of marks are taken up to some place, and those behind it are left
pub record IsTelling (table : Table) (k : ℕ) (left : List ℕ) (changes : List Changed) : Type 0 where
  pub upto : ℕ
  pub are_left : AreLeft (get_or table.marks k 0) upto left
  pub taken : AreTaken table (64 * k + upto) changes

module _ (table : Table) (k : ℕ) where
  pub telling-none : (left : List ℕ) (changes : List Changed) → left ≡ places_set (get_or table.marks k 0) → AreTaken table (64 * k) changes → IsTelling table k left changes
  telling-none left changes is are = record {
    upto = 0;
    are_left = left-all (get_or table.marks k 0) left is;
    taken = subst (λ n. AreTaken table n changes) (omega arith) are;
  }

  -- places that aren't set
  skips : (from upto : ℕ) (changes : List Changed) → from ≤ upto → upto ≤ 64 → ((q : ℕ) → from ≤ q → q < upto → is_set_at (get_or table.marks k 0) q ≡ false)
      → AreTaken table (64 * k + from) changes → AreTaken table (64 * k + upto) changes
  skips from upto changes later small none are =
      taken-passes table (64 * k + from) (64 * k + upto) changes (omega (arith, later))
      (λ net late below.
      let place : (q : ℕ) × (net ≡ 64 * k + q) = (net - 64 * k, omega (arith, late)) in
      ap (has table) place.1 ∙ has-place table k place.0 (omega (arith, place.1, below, small)) ∙ none place.0 (omega (arith, place.1, late)) (omega (arith, place.1, below))) are

  pub telling-all : (left : List ℕ) (changes : List Changed) → IsTelling table k left changes → left ≡ [] → AreTaken table (64 * k + 64) changes
  telling-all left changes h is = skips h.upto 64 changes h.are_left.small (omega arith) (left-none _ h.upto left h.are_left is) h.taken

  module _ (left : List ℕ) (old : List Changed) (h : IsTelling table k left old) (place : ℕ) (rest : List ℕ) (is : left ≡ place ∷ rest) where
    next : IsNextPlace (get_or table.marks k 0) h.upto 64 place rest
    next = left-next _ h.upto left h.are_left place rest is

    marked : has table (64 * k + place) ≡ true
    marked = has-place table k place next.within ∙ next.set

    pub telling-within : IsTable table → 64 * k + place < length table.words
    telling-within is_table = is_table.within (64 * k + place) marked

    pub telling-next : (one : Changed) (new : List Changed) → one.net ≡ 64 * k + place → ((d : Word) → get_or table.words (64 * k + place) d ≡ one.word) → new ≡ old ++ one ∷ [] → IsTelling table k rest new
    telling-next one new at word pushed = record {
      upto = place + 1;
      are_left = left-behind _ h.upto left h.are_left place rest is;
      taken = subst (AreTaken table (64 * k + (place + 1))) (sym pushed)
          (subst (λ n. AreTaken table n (old ++ one ∷ [])) (omega (arith, at))
          (taken-push table old one
          (record { marked = ap (has table) at ∙ marked; word = λ d. ap (λ n. get_or table.words n d) at ∙ word d })
          (subst (λ n. AreTaken table n old) (sym at) (skips h.upto place old next.later (omega (arith, next.within)) next.none h.taken))));
    }
