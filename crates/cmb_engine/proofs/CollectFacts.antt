-- Which nets changed in a window, and what their words tell.
use Rattle.std.proofs.Common.{◌≡◌, ℕ, zero, suc, ◌+◌, ◌-◌, ◌*◌, ◌<◌, ◌≤◌, ◌⊎◌, inl, inr, Bool, false, true, List, [], ◌∷◌, ◌++◌, get_or, min, sym, ap, subst, ◌∙◌, arith}
use Rattle.std.specs.Prelude.{◌==◌}
use Rattle.std.specs.List.{All}
use Rattle.std.proofs.lemmas.Bool.{cases_lt, eq-eqb, false≢true, or_parts}
use Rattle.std.proofs.lemmas.List.Elements.{All-push}
use Rattle.std.proofs.lemmas.List.Folds.{list_any-append}
use Rattle.cmb_wave.specs.declared.level.Level.{Level}
use Rattle.cmb_words.specs.declared.changed.Changed.{Changed}
use Rattle.cmb_words.specs.Bits.{is_set_at, places_set}
use Rattle.cmb_words.specs.Changes.{RisesWithin, IsStill, is_among}
use Rattle.cmb_words.specs.Word.{level_at_place}
use Rattle.cmb_words.specs.declared.word.Word.{Word}
use Rattle.cmb_words.proofs.Rising.{rises-push, rises-wider, rises_at}
use Rattle.cmb_words.proofs.StillFacts.{still-ticks, ticks-still}
use Rattle.cmb_words.proofs.TellsFacts.{levels-tell}
use Rattle.cmb_engine.specs.Inner.Batches.{IsNextWord}
use Rattle.cmb_engine.specs.Inner.Bits.{has, HasNone}
use Rattle.cmb_engine.specs.Inner.Cells.{IsSteadyFrom}
use Rattle.cmb_engine.specs.Inner.Circuits.{AreQuiet, Shows}
pub use Rattle.cmb_engine.specs.Inner.Collects.{HasWord}
use Rattle.cmb_engine.specs.Inner.Collects.{IsCollected, IsMoved, IsWanted}
use Rattle.cmb_engine.specs.Shares.{EachChanges, TellsAll}
use Rattle.cmb_engine.specs.declared.marks.Marked.{Marked}
use Rattle.cmb_engine.proofs.MoveFacts.{quiet-same}
use Rattle.cmb_engine.proofs.PlaceFacts.{AreLeft, IsNextPlace, left-all, left-behind, left-next, left-none}
use Rattle.cmb_engine.proofs.TruthFacts.{in_place-tick}

-- a slot that isn't live stays as it is
pub quiet-steady : (words : ℕ → ℕ → Level) (live : ℕ → Bool) (count first net : ℕ) → first < 64 → AreQuiet words live count → net < count → live net ≡ false → IsSteadyFrom (words net) first
quiet-steady words live count first net small quiet inside none place from below = quiet-same words live count net place (first - 1) quiet inside none below (omega (arith, small))

module _ (words : ℕ → ℕ → Level) (wanted : ℕ → Bool) (first : ℕ) (changed : List Changed) where
  -- nets that stay as they are, where they are wanted
  pub collected-passes : (start next : ℕ) → start ≤ next → ((net : ℕ) → start ≤ net → net < next → wanted net ≡ true → IsSteadyFrom (words net) first)
      → IsCollected words wanted first start changed → IsCollected words wanted first next changed
  collected-passes start next later steady h = record {
    rises = rises-wider 0 start next changed h.rises later;
    right = h.right;
    moved = h.moved;
    others = λ net below want other. go net below want other (cases_lt net start);
  }
    where
      go : (net : ℕ) → net < next → wanted net ≡ true → is_among net changed ≡ false → (net < start) ⊎ (start ≤ net) → IsSteadyFrom (words net) first
      go net below want other (inl l) = h.others net l want other
      go net below want other (inr l) = steady net l below want

  -- the next net stays as it is
  pub collected-steady : (net : ℕ) → IsSteadyFrom (words net) first → IsCollected words wanted first net changed → IsCollected words wanted first (net + 1) changed
  collected-steady net steady h = record {
    rises = rises-wider 0 net (net + 1) changed h.rises (omega arith);
    right = h.right;
    moved = h.moved;
    others = λ m below want other. go m below want other (cases_lt m net);
  }
    where
      go : (m : ℕ) → m < net + 1 → wanted m ≡ true → is_among m changed ≡ false → (m < net) ⊎ (net ≤ m) → IsSteadyFrom (words m) first
      go m below want other (inl l) = h.others m l want other
      go m below want other (inr l) = let e : net ≡ m = omega (arith, l, below) in subst (λ (n : ℕ). IsSteadyFrom (words n) first) e steady

  -- the next net is collected
  pub collected-push : (one : Changed) → HasWord words one → IsMoved first one → IsCollected words wanted first one.net changed → IsCollected words wanted first (one.net + 1) (changed ++ one ∷ [])
  collected-push one word moves h = record {
    rises = rises-push 0 one.net (one.net + 1) changed one h.rises (omega arith) (omega arith) (omega arith);
    right = All-push (HasWord words) changed one h.right word;
    moved = All-push (IsMoved first) changed one h.moved moves;
    others = λ m below want other.
        let parts = or_parts (is_among m changed) (is_among m (one ∷ [])) (sym (list_any-append (λ (c : Changed). c.net == m) changed (one ∷ [])) ∙ other) in
        go m below want parts.0 (or_parts (one.net == m) false parts.1).0 (cases_lt m one.net);
  }
    where
      go : (m : ℕ) → m < one.net + 1 → wanted m ≡ true → is_among m changed ≡ false → (one.net == m) ≡ false → (m < one.net) ⊎ (one.net ≤ m) → IsSteadyFrom (words m) first
      go m below want other here (inl l) = h.others m l want other
      go m below want other here (inr l) = absurd (false≢true (sym here ∙ eq-eqb one.net m (omega arith)))

-- a net stays as it is, or is told
abbrev pub IsJudged : ℕ → ℕ → Word → List Changed → List Changed → Type 0
IsJudged first net word old new =
    ((new ≡ old) × IsSteadyFrom (level_at_place word) first) ⊎ ((new ≡ old ++ record { net = net; word = word } ∷ []) × (IsSteadyFrom (level_at_place word) first → ⊥))

-- the next net is judged by its word
pub collected-next : (words : ℕ → ℕ → Level) (wanted : ℕ → Bool) (first net : ℕ) (word : Word) (old new : List Changed) → ((place : ℕ) → words net place ≡ level_at_place word place) → IsJudged first net word old new
    → IsCollected words wanted first net old → IsCollected words wanted first (net + 1) new
collected-next words wanted first net word old new at (inl steady) so_far =
    rw steady.0 (collected-steady words wanted first old net (λ place from l. at place ∙ steady.1 place from l ∙ sym (at (first - 1))) so_far)
collected-next words wanted first net word old new at (inr pushed) so_far =
    rw pushed.0 (collected-push words wanted first old (record { net = net; word = word }) (λ place l. sym (at place)) pushed.1 so_far)

-- ---- the nets of a word, one after another

-- the nets of a word are collected up to some place, and those behind it are left
pub record IsCollecting (words : ℕ → ℕ → Level) (wanted : ℕ → Bool) (first base places nets : ℕ) (left : List ℕ) (changed : List Changed) : Type 0 where
  pub upto : ℕ
  pub are_left : AreLeft places upto left
  pub collected : IsCollected words wanted first (min (base + upto) nets) changed

module _ (words : ℕ → ℕ → Level) (wanted : ℕ → Bool) (first base places nets : ℕ)
    (quiet : (place : ℕ) → place < 64 → is_set_at places place ≡ false → base + place < nets → wanted (base + place) ≡ true → IsSteadyFrom (words (base + place)) first) where
  pub collecting-none : (left : List ℕ) (changed : List Changed) → base < nets → left ≡ places_set places → IsCollected words wanted first base changed
      → IsCollecting words wanted first base places nets left changed
  collecting-none left changed below is h = record {
    upto = 0;
    are_left = left-all places left is;
    collected = subst (λ (n : ℕ). IsCollected words wanted first n changed) (omega (arith, below)) h;
  }

  -- places that aren't set
  skips : (from upto : ℕ) (changed : List Changed) → from ≤ upto → upto ≤ 64 → ((q : ℕ) → from ≤ q → q < upto → is_set_at places q ≡ false)
      → IsCollected words wanted first (min (base + from) nets) changed → IsCollected words wanted first (min (base + upto) nets) changed
  skips from upto changed later small none h =
      collected-passes words wanted first changed (min (base + from) nets) (min (base + upto) nets) (omega (arith, later))
      (λ net late below want.
      let at : base + (net - base) ≡ net = omega (arith, late, below) in
      subst (λ (n : ℕ). wanted n ≡ true → IsSteadyFrom (words n) first) at
      (quiet (net - base) (omega (arith, late, below, small)) (none (net - base) (omega (arith, late, below)) (omega (arith, late, below))) (omega (arith, late, below))) want) h

  -- where no place is left, all nets of the word are collected
  pub collecting-all : (left : List ℕ) (changed : List Changed) → IsCollecting words wanted first base places nets left changed → left ≡ [] → IsCollected words wanted first (min (base + 64) nets) changed
  collecting-all left changed h is = skips h.upto 64 changed h.are_left.small (omega arith) (left-none places h.upto left h.are_left is) h.collected

  module _ (left : List ℕ) (old : List Changed) (h : IsCollecting words wanted first base places nets left old) (place : ℕ) (rest : List ℕ) (is : left ≡ place ∷ rest) where
    next : IsNextPlace places h.upto 64 place rest
    next = left-next places h.upto left h.are_left place rest is

    pub collecting-small : place < 64
    collecting-small = next.within

    pub collecting-set : is_set_at places place ≡ true
    collecting-set = next.set

    so_far : IsCollected words wanted first (min (base + place) nets) old
    so_far = skips h.upto place old next.later (omega (arith, next.within)) next.none h.collected

    -- the next place is one of a net
    pub collecting-next : (new : List Changed) → base + place < nets → (IsCollected words wanted first (base + place) old → IsCollected words wanted first (base + place + 1) new)
        → IsCollecting words wanted first base places nets rest new
    collecting-next new below judged = record {
      upto = place + 1;
      are_left = left-behind places h.upto left h.are_left place rest is;
      collected = subst (λ (n : ℕ). IsCollected words wanted first n new) (omega (arith, below)) (judged (subst (λ (n : ℕ). IsCollected words wanted first n old) (omega (arith, below)) so_far));
    }

    -- it is behind the last net
    pub collecting-past : nets ≤ base + place → IsCollecting words wanted first base places nets rest old
    collecting-past past = record {
      upto = place + 1;
      are_left = left-behind places h.upto left h.are_left place rest is;
      collected = subst (λ (n : ℕ). IsCollected words wanted first n old) (omega (arith, past)) so_far;
    }

-- where the unset places of a word stay as they are, so do the wanted ones among those that are left of it
pub still-wanted : (words : ℕ → ℕ → Level) (wanted : ℕ → Bool) (first nets : ℕ) (batch left : Marked)
    → ((place : ℕ) → place < 64 → is_set_at batch.places place ≡ false → batch.base + place < nets → wanted (batch.base + place) ≡ true → IsSteadyFrom (words (batch.base + place)) first)
    → left.base ≡ batch.base → ((place : ℕ) → place < 64 → is_set_at left.places place ≡ false → wanted (batch.base + place) ≡ true → is_set_at batch.places place ≡ false)
    → (place : ℕ) → place < 64 → is_set_at left.places place ≡ false → left.base + place < nets → wanted (left.base + place) ≡ true → IsSteadyFrom (words (left.base + place)) first
still-wanted words wanted first nets batch left quiet same others place small unset =
    subst (λ (base : ℕ). base + place < nets → wanted (base + place) ≡ true → IsSteadyFrom (words (base + place)) first) (sym same)
    (λ below want. quiet place small (others place small unset want) below want)

-- ---- the nets, word by word of the live ones

module _ (words : ℕ → ℕ → Level) (wanted : ℕ → Bool) (live : List ℕ) (count nets first : ℕ) (small : first < 64) (few : nets ≤ count) (quiet : AreQuiet words (has live) count) (changed : List Changed) where
  still : (net : ℕ) → net < nets → has live net ≡ false → IsSteadyFrom (words net) first
  still net below none = quiet-steady words (has live) count first net small quiet (omega (arith, few, below)) none

  -- up to the next word
  pub collected-word : (from upto base places : ℕ) → IsNextWord live from upto base places → base < nets → IsCollected words wanted first (min (64 * from) nets) changed → IsCollected words wanted first base changed
  collected-word from upto base places word below h =
      collected-passes words wanted first changed (min (64 * from) nets) base (omega (arith, word.on, word.ends))
      (λ net late under want. still net (omega (arith, under, below)) (word.none net (omega (arith, late, under, below)) under)) h

  -- and behind the last one
  pub collected-end : (from : ℕ) → HasNone live (64 * from) nets → IsCollected words wanted first (min (64 * from) nets) changed → IsCollected words wanted first nets changed
  collected-end from none h =
      collected-passes words wanted first changed (min (64 * from) nets) nets (omega arith) (λ net late under want. still net under (none net (omega (arith, late, under)) under)) h

  -- the places of a word that aren't set stay as they are
  pub collected-quiet : (from upto base places : ℕ) → IsNextWord live from upto base places → (place : ℕ) → place < 64 → is_set_at places place ≡ false → base + place < nets
      → wanted (base + place) ≡ true → IsSteadyFrom (words (base + place)) first
  collected-quiet from upto base places word place within none below want = still (base + place) below (sym (word.members place within) ∙ none)

-- words that show a trace tell its changes, where all nets are collected
module _ (words : ℕ → ℕ → Level) (trace : ℕ → ℕ → Level) (count nets to first : ℕ) (changed : List Changed) (shows : Shows words trace count to) (few : nets ≤ count) (begun : 1 ≤ first)
    (inside : 65 ≤ to + first) where
  -- a tick of the window, and the one before it, is shown in its place
  pub shown-at : (net tick : ℕ) → net < nets → to + first - 64 ≤ suc tick → tick < to → words net (tick + 64 - to) ≡ trace net tick
  shown-at net tick below from upto =
      shows net (tick + 64 - to) (omega (arith, few, below)) (omega arith)
      ∙ in_place-tick (trace net) to (tick + 64 - to) (omega (arith, from, inside))
      ∙ ap (trace net) (omega (arith, from, begun, inside))

  pub steady-still : (net : ℕ) → net < nets → IsSteadyFrom (words net) first → IsStill (trace net) (to + first - 64) to
  steady-still net below steady = ticks-still (trace net) (to + first - 64) to (omega (arith, inside)) (λ tick from upto.
      sym (shown-at net tick below from (omega arith))
      ∙ first_level (tick + 64 - to) (omega (arith, from, inside)) (omega (arith, upto)) (cases_lt (tick + 64 - to) first)
      ∙ sym (steady (suc tick + 64 - to) (omega (arith, from, inside, begun)) (omega (arith, upto)))
      ∙ shown-at net (suc tick) below (omega arith) upto)
    where
      first_level : (place : ℕ) → first ≤ place + 1 → place < 64 → (place < first) ⊎ (first ≤ place) → words net place ≡ words net (first - 1)
      first_level place near small (inl l) = ap (words net) (omega (arith, near, l))
      first_level place near small (inr l) = steady place l small

  pub collected-tells : (wanted : List ℕ) → first ≤ 64 → RisesWithin 0 nets changed → All (HasWord words) changed
      → ((net : ℕ) → net < nets → has wanted net ≡ true → is_among net changed ≡ false → IsSteadyFrom (words net) first)
      → TellsAll (IsWanted wanted nets) trace (to + first - 64) to changed
  collected-tells wanted most rises right others = record {
    words = λ k d small.
        levels-tell trace (to + first - 64) to (get_or changed k d) (omega (arith, most))
        (λ tick from upto.
        right k d small (tick + 64 - to) (omega (arith, upto, from, inside))
        ∙ shown-at (get_or changed k d).net tick (rises_at 0 nets changed k d rises small) from upto);
    others = λ net want other. steady-still net want.0 (others net want.0 want.1 other);
  }

-- a word that tells no change is steady
still-steady : (word : ℕ → Level) (from to : ℕ) → 1 ≤ from → from < to → to ≤ from + 63 → IsStill (λ tick. word (tick + 64 - to)) from to → IsSteadyFrom word (64 - (to - from))
still-steady word from to begun later short still place late small =
    let at : 64 - (to - from) - 1 + (place - (64 - (to - from) - 1)) ≡ place = omega arith in
    sym (ap word at) ∙ go (place - (64 - (to - from) - 1)) (omega arith)
  where
    go : (k : ℕ) → 64 - (to - from) - 1 + k < 64 → word (64 - (to - from) - 1 + k) ≡ word (64 - (to - from) - 1)
    go zero inside = let at : 64 - (to - from) - 1 + 0 ≡ 64 - (to - from) - 1 = omega arith in ap word at
    go (suc k) inside =
        let here : from - 1 + k + 64 - to ≡ 64 - (to - from) - 1 + k = omega arith in
        let there : suc (from - 1 + k) + 64 - to ≡ 64 - (to - from) - 1 + suc k = omega arith in
        ap word (sym there) ∙ sym (still-ticks (λ tick. word (tick + 64 - to)) from to still (from - 1 + k) (omega arith) (omega arith)) ∙ ap word here ∙ go k (omega arith)

-- so what was collected moves
pub collected-moves : (changed : List Changed) (from to : ℕ) → 1 ≤ from → from < to → to ≤ from + 63 → All (IsMoved (64 - (to - from))) changed → EachChanges from to changed
collected-moves changed from to begun later short moved k d small still = moved k d small (still-steady (level_at_place (get_or changed k d).word) from to begun later short still)
