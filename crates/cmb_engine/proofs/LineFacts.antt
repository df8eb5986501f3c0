-- What is told of lines.
use Rattle.std.proofs.Common.{◌≡◌, ◌≢◌, ℕ, suc, ◌+◌, ◌-◌, ◌<◌, ◌≤◌, ◌⊎◌, ⊎_elim, inl, inr, true, false, List, [], ◌∷◌, ◌++◌, length, get_or, take, sym, ap, subst, ◌∙◌, arith}
use Rattle.std.specs.Prelude.{◌↔◌, All, Contains, not}
use Rattle.std.proofs.lemmas.Bool.{cases_Bool, cases_lt, false≢true}
use Rattle.std.proofs.lemmas.Option.{slice_get-get_or, get_or_from_slice_get}
use Rattle.std.proofs.lemmas.List.Elements.{All-contains, All-nil, All-cons, All-head, All-same, All-weaker, Contains-append_left, Contains-push, Contains-push_cases}
use Rattle.cmb_wave.specs.Waveform.{same_level}
use Rattle.cmb_wave.proofs.Lists.{same_level-same, test_of_same}
use Rattle.cmb_wheel.specs.declared.event.LevelEvent.{LevelEvent}
use Rattle.cmb_words.specs.declared.changed.Changed.{Changed}
use Rattle.cmb_words.specs.declared.word.Word.{Word}
use Rattle.cmb_words.specs.Changes.{RisesWithin}
use Rattle.cmb_words.specs.Bits.{is_set_at, places_set}
use Rattle.cmb_words.specs.Word.{level_at_place}
use Rattle.cmb_words.proofs.MaskFacts.{places-each, places-all}
use Rattle.cmb_engine.specs.declared.cell.Pin.{Pin}
use Rattle.cmb_engine.specs.Inner.Lines.{Follows, IsOfChange, IsOfFollower, IsOfLine, tell_of}
use Rattle.cmb_engine.proofs.NoteFacts.{taken-before, taken-last, taken-cases}

-- a tell is of one of some places
pub record IsOfPlaces (word : Word) (slot delay to : ℕ) (places : List ℕ) (event : LevelEvent) : Type 0 where
  pub place : ℕ
  pub among : Contains places place
  pub is : event ≡ tell_of word slot delay to place

-- the mask of a word's changes from a place on
module _ (word : Word) (mask first : ℕ) (below : (i : ℕ) → i < first → is_set_at mask i ≡ false)
    (from : (i : ℕ) → first ≤ i → i < 64 → is_set_at mask i ≡ not (same_level (level_at_place word (i - 1)) (level_at_place word i))) where
  -- each place of it is one of a change
  pub place-changes : (place : ℕ) → place < 64 → is_set_at mask place ≡ true → (first ≤ place) × (level_at_place word (place - 1) ≢ level_at_place word place)
  place-changes place small one = (late, differs)
    where
      late : first ≤ place
      late = ⊎_elim (λ h. absurd (false≢true (sym (below place h) ∙ one))) (λ h. h) (cases_lt place first)

      differs : level_at_place word (place - 1) ≢ level_at_place word place
      differs same = absurd (false≢true (sym (from place late small ∙ ap not (same_level-same _ _ same)) ∙ one))

  -- each change is at one of its places
  pub change-set : (place : ℕ) → first ≤ place → place < 64 → level_at_place word (place - 1) ≢ level_at_place word place → is_set_at mask place ≡ true
  change-set place late small differs =
      from place late small
      ∙ ⊎_elim
      (λ same. absurd (differs (test_of_same _ _ same)))
      (λ other. ap not other)
      (cases_Bool (same_level (level_at_place word (place - 1)) (level_at_place word place)))

  pub change-of-place : (slot delay to : ℕ) (event : LevelEvent) → IsOfPlaces word slot delay to (places_set mask) event → IsOfChange word slot delay to first event
  change-of-place slot delay to event h =
      let set : (h.place < 64) × (is_set_at mask h.place ≡ true) =
      All-contains (λ place. (place < 64) × (is_set_at mask place ≡ true)) (places_set mask) h.place (places-each mask) h.among in
      let parts = place-changes h.place set.0 set.1 in
      record { place = h.place; from = parts.0; within = set.0; differs = parts.1; is = h.is }

  pub place-of-change : (slot delay to : ℕ) (event : LevelEvent) → IsOfChange word slot delay to first event → IsOfPlaces word slot delay to (places_set mask) event
  place-of-change slot delay to event h = record {
    place = h.place;
    among = places-all mask h.place h.within (change-set h.place h.from h.within h.differs);
    is = h.is;
  }

-- one place more
module _ (word : Word) (slot delay to : ℕ) (places : List ℕ) (place : ℕ) (one : LevelEvent) (at : one ≡ tell_of word slot delay to place) where
  pub place-parts : (event : LevelEvent) → IsOfPlaces word slot delay to (places ++ place ∷ []) event → IsOfPlaces word slot delay to places event ⊎ (event ≡ one)
  place-parts event h = go (Contains-push_cases places place h.place h.among)
    where
      go : Contains places h.place ⊎ (place ≡ h.place) → IsOfPlaces word slot delay to places event ⊎ (event ≡ one)
      go (inl a) = inl (record { place = h.place; among = a; is = h.is })
      go (inr e) = inr (h.is ∙ ap (λ p. tell_of word slot delay to p) (sym e) ∙ sym at)

  pub place-before : (event : LevelEvent) → IsOfPlaces word slot delay to places event → IsOfPlaces word slot delay to (places ++ place ∷ []) event
  place-before event h = record { place = h.place; among = Contains-append_left places (place ∷ []) h.place h.among; is = h.is }

  pub place-last : (event : LevelEvent) → event ≡ one → IsOfPlaces word slot delay to (places ++ place ∷ []) event
  place-last event e = record { place = place; among = Contains-push places place; is = e ∙ at }

-- no place
pub place-none : (word : Word) (slot delay to : ℕ) (event : LevelEvent) → IsOfPlaces word slot delay to [] event → ⊥
place-none word slot delay to event h = absurd (omega (arith, h.among.1))

-- the places of the mask of a word's changes
pub places-within : (word : Word) (mask first : ℕ) (below : (i : ℕ) → i < first → is_set_at mask i ≡ false)
    (from : (i : ℕ) → first ≤ i → i < 64 → is_set_at mask i ≡ not (same_level (level_at_place word (i - 1)) (level_at_place word i)))
    → All (λ place. (first ≤ place) × (place < 64)) (places_set mask)
places-within word mask first below from =
    All-weaker (λ place. (place < 64) × (is_set_at mask place ≡ true)) (λ place. (first ≤ place) × (place < 64))
    (λ place h. ((place-changes word mask first below from place h.0 h.1).0, h.0)) (places_set mask) (places-each mask)

-- what holds of all that is left holds of the next one
pub next-of : {X : Type 0} (P : X → Type 0) (left : List X) (x : X) (rest : List X) → left ≡ x ∷ rest → All P left → P x
next-of P left x rest is all = All-head P x rest (All-same P (x ∷ rest) left (sym is) all)

-- no line
pub follower-none : (word : Word) (lines : List Pin) (nets to first : ℕ) (event : LevelEvent) → IsOfFollower word [] lines nets to first event → ⊥
follower-none word lines nets to first event h = absurd (omega (arith, h.among.1))

-- one line more
module _ (word : Word) (numbers : List ℕ) (i : ℕ) (inside : i < length numbers) (lines : List Pin) (d : Pin) (nets to first : ℕ) where
  pub follower-parts : (event : LevelEvent) → IsOfFollower word (take (i + 1) numbers) lines nets to first event
      → IsOfFollower word (take i numbers) lines nets to first event ⊎ IsOfChange word (nets + get_or numbers i 0) (get_or lines (get_or numbers i 0) d).delay to first event
  follower-parts event h = go (taken-cases numbers i 0 inside h.number h.among)
    where
      go : Contains (take i numbers) h.number ⊎ (get_or numbers i 0 ≡ h.number)
          → IsOfFollower word (take i numbers) lines nets to first event ⊎ IsOfChange word (nets + get_or numbers i 0) (get_or lines (get_or numbers i 0) d).delay to first event
      go (inl a) = inl (record { number = h.number; line = h.line; among = a; has_number = h.has_number; change = h.change })
      go (inr e) =
          let line : h.line ≡ get_or lines h.number d = sym (get_or_from_slice_get lines h.number h.line d h.has_number) in
          inr (subst (λ (n : ℕ). IsOfChange word (nets + n) (get_or lines n d).delay to first event) (sym e)
          (subst (λ (l : Pin). IsOfChange word (nets + h.number) l.delay to first event) line h.change))

  pub follower-before : (event : LevelEvent) → IsOfFollower word (take i numbers) lines nets to first event → IsOfFollower word (take (i + 1) numbers) lines nets to first event
  follower-before event h = record {
    number = h.number;
    line = h.line;
    among = taken-before numbers i 0 inside h.number h.among;
    has_number = h.has_number;
    change = h.change;
  }

  pub follower-last : get_or numbers i 0 < length lines → (event : LevelEvent) → IsOfChange word (nets + get_or numbers i 0) (get_or lines (get_or numbers i 0) d).delay to first event
      → IsOfFollower word (take (i + 1) numbers) lines nets to first event
  follower-last small event h = record {
    number = get_or numbers i 0;
    line = get_or lines (get_or numbers i 0) d;
    among = taken-last numbers i 0 inside;
    has_number = slice_get-get_or lines (get_or numbers i 0) d small;
    change = h;
  }

-- no net
pub line-none : (lines : List Pin) (nets to first : ℕ) (event : LevelEvent) → IsOfLine [] lines nets to first event → ⊥
line-none lines nets to first event h = absurd (omega (arith, h.among.1))

-- one net more
module _ (changed : List Changed) (i : ℕ) (one : Changed) (inside : i < length changed) (item : one ≡ get_or changed i one) (lines : List Pin) (nets to first : ℕ) (numbers : List ℕ)
    (follow : (number : ℕ) → Contains numbers number ↔ Follows lines number one.net) where
  pub line-parts : (event : LevelEvent) → IsOfLine (take (i + 1) changed) lines nets to first event
      → IsOfLine (take i changed) lines nets to first event ⊎ IsOfFollower one.word numbers lines nets to first event
  line-parts event h = go (taken-cases changed i one inside h.one h.among)
    where
      go : Contains (take i changed) h.one ⊎ (get_or changed i one ≡ h.one)
          → IsOfLine (take i changed) lines nets to first event ⊎ IsOfFollower one.word numbers lines nets to first event
      go (inl a) = inl (record { one = h.one; number = h.number; line = h.line; among = a; has_number = h.has_number; follows = h.follows; change = h.change })
      go (inr e) = inr (record {
        number = h.number;
        line = h.line;
        among = (follow h.number).1 (h.line, h.has_number, h.follows ∙ ap (λ (c : Changed). c.net) (sym (item ∙ e)));
        has_number = h.has_number;
        change = subst (λ (c : Changed). IsOfChange c.word (nets + h.number) h.line.delay to first event) (sym (item ∙ e)) h.change;
      })

  pub line-before : (event : LevelEvent) → IsOfLine (take i changed) lines nets to first event → IsOfLine (take (i + 1) changed) lines nets to first event
  line-before event h = record {
    one = h.one;
    number = h.number;
    line = h.line;
    among = taken-before changed i one inside h.one h.among;
    has_number = h.has_number;
    follows = h.follows;
    change = h.change;
  }

  pub line-last : (event : LevelEvent) → IsOfFollower one.word numbers lines nets to first event → IsOfLine (take (i + 1) changed) lines nets to first event
  line-last event h =
      let line : Follows lines h.number one.net = (follow h.number).0 h.among in
      let same : h.line ≡ line.0 = sym (get_or_from_slice_get lines h.number h.line h.line h.has_number) ∙ get_or_from_slice_get lines h.number line.0 h.line line.1 in
      record {
        one = one;
        number = h.number;
        line = h.line;
        among = subst (λ (c : Changed). Contains (take (i + 1) changed) c) (sym item) (taken-last changed i one inside);
        has_number = h.has_number;
        follows = ap (λ (l : Pin). l.net) same ∙ line.2;
        change = h.change;
      }

-- the numbers of the nets that changed are small
pub rises-within : (low nets : ℕ) (changed : List Changed) → RisesWithin low nets changed → All (λ one. one.net < nets) changed
rises-within low nets [] rises = All-nil (λ one. one.net < nets)
rises-within low nets (c ∷ cs) rises = All-cons (λ one. one.net < nets) c cs rises.1 (rises-within (suc c.net) nets cs rises.2)
