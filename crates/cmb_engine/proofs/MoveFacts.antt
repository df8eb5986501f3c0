-- Words that move on to a later window.
use Rattle.std.proofs.Common.{◌≡◌, ◌≢◌, ℕ, zero, suc, ◌+◌, ◌-◌, ◌*◌, ◌/◌, ◌%◌, ◌^◌, ◌<◌, ◌≤◌, ◌⊎◌, inl, inr, Bool, true, false, not, ◌&&◌, ◌||◌, ◌==◌, List, [], ◌∷◌, min, length, refl, sym, ap, subst, ◌∙◌, arith, w64}
use Rattle.std.proofs.lemmas.Bool.{and_parts, cases_Bool, cases_lt, cases_eq, eqb-true, false≢true}
use Rattle.std.proofs.lemmas.Nat.Bits.{bit_at-zero, bit_at_set_other}
use Rattle.std.specs.Prelude.{bit_or}
use Rattle.std.specs.Int.{bit_at}
use Rattle.cmb_wave.specs.declared.level.Level.{Level}
use Rattle.cmb_wave.specs.declared.level.Level.TheVariants.{X}
use Rattle.cmb_words.specs.Bits.{is_set_at, places_set}
use Rattle.cmb_engine.specs.Inner.Planes.{Planes}
use Rattle.cmb_engine.specs.Inner.Batches.{IsNextWord, IsSetAt, Moves}
use Rattle.cmb_engine.specs.Inner.Bits.{has}
use Rattle.cmb_engine.specs.Inner.Cells.{AreMarked, IsSteadyFrom}
use Rattle.cmb_engine.specs.Inner.Circuits.{AreQuiet}
use Rattle.cmb_engine.specs.Inner.Words.{levels_of}
use Rattle.cmb_engine.proofs.PlaceFacts.{AreLeft, IsNextPlace, left-all, left-behind, left-next, left-none}

-- there is no such net
pub levels_of-past : (words : List Planes) (net place : ℕ) → length words ≤ net → levels_of words net place ≡ X
levels_of-past [] net place past = refl
levels_of-past (w ∷ words) zero place past = absurd (omega arith)
levels_of-past (w ∷ words) (suc net) place past = levels_of-past words net place (omega arith)

-- two places of a slot that isn't live
pub quiet-same : (words : ℕ → ℕ → Level) (live : ℕ → Bool) (count slot a b : ℕ) → AreQuiet words live count → slot < count → live slot ≡ false → a < 64 → b < 64
    → words slot a ≡ words slot b
quiet-same words live count slot a b quiet inside none x y = quiet slot a inside none x ∙ sym (quiet slot b inside none y)

-- the words of the slots below one have moved on, and the others not yet
pub record AreMoved (old new : ℕ → ℕ → Level) (count ticks upto : ℕ) : Type 0 where
  pub below : (slot place : ℕ) → slot < upto → slot < count → place < 64 → new slot place ≡ old slot (min (place + ticks) 63)
  pub above : (slot place : ℕ) → upto ≤ slot → new slot place ≡ old slot place

-- slots that aren't live show the same wherever one looks
pub moved-passes : (old new : ℕ → ℕ → Level) (live : ℕ → Bool) (count ticks start next : ℕ) → start ≤ next
    → ((slot : ℕ) → start ≤ slot → slot < next → slot < count → live slot ≡ false) → AreQuiet new live count → AreMoved old new count ticks start → AreMoved old new count ticks next
moved-passes old new live count ticks start next later none quiet moved = record {
  below = λ slot place under inside small. go slot place under inside small (cases_lt slot start);
  above = λ slot place over. moved.above slot place (omega (arith, over, later));
}
  where
    go : (slot place : ℕ) → slot < next → slot < count → place < 64 → (slot < start) ⊎ (start ≤ slot) → new slot place ≡ old slot (min (place + ticks) 63)
    go slot place under inside small (inl l) = moved.below slot place l inside small
    go slot place under inside small (inr l) =
        quiet-same new live count slot place (min (place + ticks) 63) quiet inside (none slot l under inside) small (omega arith)
        ∙ moved.above slot (min (place + ticks) 63) l

-- ---- the slots of a word, one after another

-- a word that is steady from place 1 on has one level in all places
steady-first : (word : ℕ → Level) → IsSteadyFrom word 1 → (place : ℕ) → place < 64 → (place < 1) ⊎ (1 ≤ place) → word place ≡ word 0
steady-first word steady place small (inl l) = ap word (omega (arith, l))
steady-first word steady place small (inr l) = steady place l small

-- and is steady from each on
pub steady-later : (word : ℕ → Level) (first : ℕ) → first < 64 → IsSteadyFrom word 1 → IsSteadyFrom word first
steady-later word first small steady place from inside =
    steady-first word steady place inside (cases_lt place 1) ∙ sym (steady-first word steady (first - 1) (omega (arith, small)) (cases_lt (first - 1) 1))

-- a slot whose word is the same is as steady
pub steady-same : (f g : ℕ → ℕ → Level) (slot first : ℕ) → ((place : ℕ) → g slot place ≡ f slot place) → IsSteadyFrom (f slot) first → IsSteadyFrom (g slot) first
steady-same f g slot first same steady place from inside = same place ∙ steady place from inside ∙ sym (same (first - 1))

-- a slot is steady from a place on, or its readers are marked
abbrev pub IsTold : (ℕ → List ℕ) → (ℕ → ℕ → Level) → List ℕ → ℕ → ℕ → Type 0
IsTold readers words marks first slot = IsSteadyFrom (words slot) first ⊎ AreMarked (has marks) (readers slot)

pub told-same : (readers : ℕ → List ℕ) (f g : ℕ → ℕ → Level) (old new : List ℕ) (first slot : ℕ) → ((place : ℕ) → g slot place ≡ f slot place)
    → ((m : ℕ) → has old m ≡ true → has new m ≡ true) → IsTold readers f old first slot → IsTold readers g new first slot
told-same readers f g old new first slot same kept (inl steady) = inl (steady-same f g slot first same steady)
told-same readers f g old new first slot same kept (inr marked) = inr (λ k small. kept _ (marked k small))

-- how far the slots of a word have moved on: those below a place
pub record IsMoving (readers : ℕ → List ℕ) (base places steady count ticks first upto : ℕ) (marks : List ℕ) (old now : ℕ → ℕ → Level) : Type 0 where
  pub above : (slot place : ℕ) → base + upto ≤ slot → now slot place ≡ old slot place
  pub others : (slot place : ℕ) → (IsSetAt base places slot → ⊥) → now slot place ≡ old slot place
  pub moved : (slot place : ℕ) → IsSetAt base places slot → slot < base + upto → place < 64 → now slot place ≡ old slot (min (place + ticks) 63)
  pub still : (slot : ℕ) → IsSetAt base steady slot → (slot < base + upto) × IsSteadyFrom (now slot) 1
  pub news : (slot : ℕ) → IsSetAt base places slot → slot < base + upto → slot < count → IsTold readers now marks first slot

-- the slots of a word have moved on up to some place, and those behind it are left
pub record IsMovingOn (readers : ℕ → List ℕ) (base places steady count ticks first : ℕ) (left marks : List ℕ) (old now : ℕ → ℕ → Level) : Type 0 where
  pub upto : ℕ
  pub are_left : AreLeft places upto left
  pub moving : IsMoving readers base places steady count ticks first upto marks old now

pub moving-none : (readers : ℕ → List ℕ) (base places count ticks first : ℕ) (left marks : List ℕ) (words : ℕ → ℕ → Level) → left ≡ places_set places
    → IsMovingOn readers base places 0 count ticks first left marks words words
unfolding is_set_at
moving-none readers base places count ticks first left marks words is = record {
  upto = 0;
  are_left = left-all places left is;
  moving = record {
    above = λ slot place over. refl;
    others = λ slot place other. refl;
    moved = λ slot place set under small. absurd (omega (arith, set.is, under));
    still = λ slot set. absurd (false≢true (sym (ap (λ (b : ℕ). b == 1) (bit_at-zero set.place)) ∙ set.set));
    news = λ slot set under inside. absurd (omega (arith, set.is, under));
  };
}

-- the slot of the next place moves on
module _ (readers : ℕ → List ℕ) (base places count ticks first : ℕ) (left marks : List ℕ) (old f : ℕ → ℕ → Level) (steady : ℕ)
    (h : IsMovingOn readers base places steady count ticks first left marks old f) (place : ℕ) (rest : List ℕ) (is : left ≡ place ∷ rest) where
  next : IsNextPlace places h.upto 64 place rest
  next = left-next places h.upto left h.are_left place rest is

  pub moving-small : place < 64
  moving-small = next.within

  pub moving-set : is_set_at places place ≡ true
  moving-set = next.set

  -- a set place before it, or it itself
  before : (slot : ℕ) → IsSetAt base places slot → slot < base + (place + 1) → slot ≢ base + place → slot < base + h.upto
  before slot set under other = go (cases_lt set.place h.upto)
    where
      go : (set.place < h.upto) ⊎ (h.upto ≤ set.place) → slot < base + h.upto
      go (inl l) = omega (arith, set.is, l)
      go (inr l) = absurd (false≢true (sym (next.none set.place l (omega (arith, set.is, under, other))) ∙ set.set))

  pub moving-next : (marked : List ℕ) (g : ℕ → ℕ → Level) (now_steady : ℕ) → ((m q : ℕ) → m ≢ base + place → g m q ≡ f m q)
      → ((q : ℕ) → q < 64 → g (base + place) q ≡ f (base + place) (min (q + ticks) 63))
      → ((i : ℕ) → is_set_at now_steady i ≡ true → (is_set_at steady i ≡ true) ⊎ ((i ≡ place) × IsSteadyFrom (g (base + place)) 1))
      → ((m : ℕ) → has marks m ≡ true → has marked m ≡ true) → (base + place < count → IsTold readers g marked first (base + place))
      → IsMovingOn readers base places now_steady count ticks first rest marked old g
  moving-next marked g now_steady others here goes kept news = record {
    upto = place + 1;
    are_left = left-behind places h.upto left h.are_left place rest is;
    moving = record {
      above = λ m q over. others m q (omega (arith, over)) ∙ h.moving.above m q (omega (arith, over, next.later));
      others = λ m q other. others m q (λ e. other (record { place = place; small = next.within; set = next.set; is = e })) ∙ h.moving.others m q other;
      moved = λ m q set under small. moved m q set under small (cases_eq m (base + place));
      still = λ m set. still m set (goes set.place set.set);
      news = λ m set under inside. told m set under inside (cases_eq m (base + place));
    };
  }
    where
      moved : (m q : ℕ) → IsSetAt base places m → m < base + (place + 1) → q < 64 → (m ≡ base + place) ⊎ (m ≡ base + place → ⊥) → g m q ≡ old m (min (q + ticks) 63)
      moved m q set under small (inl e) =
          subst (λ (n : ℕ). g n q ≡ old n (min (q + ticks) 63)) (sym e)
          (here q small ∙ h.moving.above (base + place) (min (q + ticks) 63) (omega (arith, next.later)))
      moved m q set under small (inr other) = others m q other ∙ h.moving.moved m q set (before m set under other) small

      still : (m : ℕ) → (set : IsSetAt base now_steady m) → (is_set_at steady set.place ≡ true) ⊎ ((set.place ≡ place) × IsSteadyFrom (g (base + place)) 1)
          → (m < base + (place + 1)) × IsSteadyFrom (g m) 1
      still m set (inl was) =
          let k = h.moving.still m (record { place = set.place; small = set.small; set = was; is = set.is }) in
          (omega (arith, k.0, next.later), steady-same f g m 1 (λ q. others m q (omega (arith, k.0, next.later))) k.1)
      still m set (inr now) =
          let e : base + place ≡ m = omega (arith, set.is, now.0) in
          (omega (arith, e), subst (λ (n : ℕ). IsSteadyFrom (g n) 1) e now.1)

      told : (m : ℕ) → IsSetAt base places m → m < base + (place + 1) → m < count → (m ≡ base + place) ⊎ (m ≡ base + place → ⊥) → IsTold readers g marked first m
      told m set under inside (inl e) = subst (λ (n : ℕ). IsTold readers g marked first n) (sym e) (news (omega (arith, inside, e)))
      told m set under inside (inr other) = told-same readers f g marks marked first m (λ q. others m q other) kept (h.moving.news m set (before m set under other) inside)

-- where no place is left, all have moved on
moving-all : (readers : ℕ → List ℕ) (base places steady count ticks first : ℕ) (left marks : List ℕ) (old now : ℕ → ℕ → Level)
    → (h : IsMovingOn readers base places steady count ticks first left marks old now) → left ≡ [] → (slot : ℕ) → IsSetAt base places slot → slot < base + h.upto
moving-all readers base places steady count ticks first left marks old now h is slot set = go (cases_lt set.place h.upto)
  where
    go : (set.place < h.upto) ⊎ (h.upto ≤ set.place) → slot < base + h.upto
    go (inl l) = omega (arith, set.is, l)
    go (inr l) = absurd (false≢true (sym (left-none places h.upto left h.are_left is set.place l set.small) ∙ set.set))

pub moving-moves : (readers : ℕ → List ℕ) (base places steady count ticks first : ℕ) (left old_marks marks : List ℕ) (old now : ℕ → ℕ → Level) → length marks ≡ length old_marks
    → ((m : ℕ) → has old_marks m ≡ true → has marks m ≡ true) → IsMovingOn readers base places steady count ticks first left marks old now → left ≡ []
    → Moves readers base places steady count ticks first old_marks marks old now
moving-moves readers base places steady count ticks first left old_marks marks old now room kept h is = record {
  room = room;
  kept = kept;
  others = h.moving.others;
  moved = λ slot place set small. h.moving.moved slot place set (all slot set) small;
  still = λ slot set. (h.moving.still slot set).1;
  news = λ slot set inside. h.moving.news slot set (all slot set) inside;
}
  where
    all : (slot : ℕ) → IsSetAt base places slot → slot < base + h.upto
    all = moving-all readers base places steady count ticks first left marks old now h is

-- places of slots that there aren't may be left out
module _ (readers : ℕ → List ℕ) (base places within steady count ticks first : ℕ) (old_marks marks : List ℕ) (old now : ℕ → ℕ → Level)
    (below : (place : ℕ) → place < 64 → is_set_at within place ≡ true → (is_set_at places place ≡ true) × (base + place < count))
    (all : (place : ℕ) → place < 64 → is_set_at within place ≡ false → base + place < count → is_set_at places place ≡ false)
    (outside : (slot p q : ℕ) → count ≤ slot → now slot p ≡ old slot q) (moves : Moves readers base within steady count ticks first old_marks marks old now) where
  one-within : (slot : ℕ) → IsSetAt base places slot → slot < count → IsSetAt base within slot
  one-within slot set inside = go (cases_Bool (is_set_at within set.place))
    where
      go : (is_set_at within set.place ≡ true) ⊎ (is_set_at within set.place ≡ false) → IsSetAt base within slot
      go (inl one) = record { place = set.place; small = set.small; set = one; is = set.is }
      go (inr none) = absurd (false≢true (sym (all set.place set.small none (omega (arith, set.is, inside))) ∙ set.set))

  pub moves-within : Moves readers base places steady count ticks first old_marks marks old now
  moves-within = record {
    room = moves.room;
    kept = moves.kept;
    others = λ slot place other. moves.others slot place (λ set. other (record { place = set.place; small = set.small; set = (below set.place set.small set.set).0; is = set.is }));
    moved = λ slot place set small. moved slot place set small (cases_lt slot count);
    still = moves.still;
    news = λ slot set inside. moves.news slot (one-within slot set inside) inside;
  }
    where
      moved : (slot place : ℕ) → IsSetAt base places slot → place < 64 → (slot < count) ⊎ (count ≤ slot) → now slot place ≡ old slot (min (place + ticks) 63)
      moved slot place set small (inl l) = moves.moved slot place (one-within slot set l) small
      moved slot place set small (inr l) = outside slot place (min (place + ticks) 63) l

-- one more place of a mask, of which something is so
pub place-more : (So : Type 0) (mask place i : ℕ) → place < 64 → So → is_set_at (bit_or mask (1 * 2 ^ place % 2 ^ 64)) i ≡ true → (is_set_at mask i ≡ true) ⊎ ((i ≡ place) × So)
unfolding is_set_at
place-more So mask place i small so set = go (cases_eq i place)
  where
    go : (i ≡ place) ⊎ (i ≡ place → ⊥) → ((bit_at mask i == 1) ≡ true) ⊎ ((i ≡ place) × So)
    go (inl e) = inr (e, so)
    go (inr other) = inl (sym (ap (λ (b : ℕ). b == 1) (bit_at_set_other w64 mask place small i other)) ∙ set)

-- the same, where it is wanted
pub place-wanted : (So : Type 0) (old new : ℕ) (wanted : Bool) (place i : ℕ) → is_set_at new place ≡ (wanted || is_set_at old place)
    → ((k : ℕ) → k ≢ place → is_set_at new k ≡ is_set_at old k) → (wanted ≡ true → So) → is_set_at new i ≡ true → (is_set_at old i ≡ true) ⊎ ((i ≡ place) × So)
place-wanted So old new wanted place i here others so set = go (cases_eq i place) (cases_Bool wanted)
  where
    go : (i ≡ place) ⊎ (i ≡ place → ⊥) → (wanted ≡ true) ⊎ (wanted ≡ false) → (is_set_at old i ≡ true) ⊎ ((i ≡ place) × So)
    go (inl e) (inl is) = inr (e, so is)
    go (inl e) (inr none) =
        inl (ap (is_set_at old) e ∙ sym (ap (λ (b : Bool). b || is_set_at old place) none) ∙ sym here ∙ ap (is_set_at new) (sym e) ∙ set)
    go (inr other) w = inl (sym (others i other) ∙ set)

-- ---- the words of the slots, word by word of the live ones

-- the live slots below one are steady, or their readers are marked
abbrev pub AreTold : (ℕ → List ℕ) → (ℕ → ℕ → Level) → ℕ → List ℕ → List ℕ → ℕ → ℕ → Type 0
AreTold readers words count live marks first upto = (slot : ℕ) → slot < upto → slot < count → has live slot ≡ true → IsTold readers words marks first slot

module _ (live : List ℕ) (from upto base places : ℕ) (word : IsNextWord live from upto base places) (now new : ℕ → ℕ → Level)
    (others : (slot place : ℕ) → (IsSetAt base places slot → ⊥) → new slot place ≡ now slot place) where
  -- the live slots of the word are those of its places
  set-live : (slot : ℕ) → IsSetAt base places slot → has live slot ≡ true
  set-live slot set = ap (has live) set.is ∙ sym (word.members set.place set.small) ∙ set.set

  live-set : (slot : ℕ) → base ≤ slot → slot < base + 64 → has live slot ≡ true → IsSetAt base places slot
  live-set slot late under is =
      let at : slot ≡ base + (slot - base) = omega (arith, late) in
      record { place = slot - base; small = omega (arith, under, late); set = word.members (slot - base) (omega (arith, under, late)) ∙ sym (ap (has live) at) ∙ is; is = at }

  not-set : (slot : ℕ) → has live slot ≡ false → IsSetAt base places slot → ⊥
  not-set slot none set = false≢true (sym none ∙ set-live slot set)

  pub moved-word : (old : ℕ → ℕ → Level) (count ticks : ℕ) → ((slot place : ℕ) → IsSetAt base places slot → place < 64 → new slot place ≡ now slot (min (place + ticks) 63))
      → AreQuiet now (has live) count → AreMoved old now count ticks (64 * from) → AreMoved old new count ticks (64 * upto)
  moved-word old count ticks moves quiet moved = record {
    below = λ slot place under inside small. go slot place under inside small (cases_lt slot base);
    above = λ slot place over.
        others slot place (λ set. absurd (omega (arith, over, set.is, set.small, word.ends))) ∙ moved.above slot place (omega (arith, over, word.on));
  }
    where
      so_far : AreMoved old now count ticks base
      so_far = moved-passes old now (has live) count ticks (64 * from) base (omega (arith, word.on, word.ends)) (λ slot late under inside. word.none slot late under) quiet moved

      go : (slot place : ℕ) → slot < 64 * upto → slot < count → place < 64 → (slot < base) ⊎ (base ≤ slot) → new slot place ≡ old slot (min (place + ticks) 63)
      go slot place under inside small (inl l) = others slot place (λ set. absurd (omega (arith, l, set.is))) ∙ so_far.below slot place l inside small
      go slot place under inside small (inr l) = at (cases_Bool (has live slot))
        where
          at : (has live slot ≡ true) ⊎ (has live slot ≡ false) → new slot place ≡ old slot (min (place + ticks) 63)
          at (inl is) =
              moves slot place (live-set slot l (omega (arith, under, word.ends)) is) small ∙ so_far.above slot (min (place + ticks) 63) l
          at (inr none) =
              others slot place (not-set slot none)
              ∙ quiet-same now (has live) count slot place (min (place + ticks) 63) quiet inside none small (omega arith)
              ∙ so_far.above slot (min (place + ticks) 63) l

  -- the steady ones among them aren't live any more
  module _ (less : List ℕ) (steady : ℕ) (taken : (m : ℕ) → has less m ≡ (not (m / 64 == base / 64 && is_set_at steady (m % 64)) && has live m))
      (still : (slot : ℕ) → IsSetAt base steady slot → IsSteadyFrom (new slot) 1) where
    stays : (slot : ℕ) → has less slot ≡ true → has live slot ≡ true
    stays slot is = (and_parts (not (slot / 64 == base / 64 && is_set_at steady (slot % 64))) (has live slot) (sym (taken slot) ∙ is)).1

    gone : (slot : ℕ) → has live slot ≡ true → has less slot ≡ false → IsSetAt base steady slot
    gone slot is none =
        let both = and_parts (slot / 64 == base / 64) (is_set_at steady (slot % 64)) (was-taken _ _ (sym (taken slot) ∙ none) is) in
        let same : slot / 64 ≡ base / 64 = eqb-true _ _ both.0 in
        record { place = slot % 64; small = omega arith; set = both.1; is = omega (arith, same, word.ends) }
      where
        was-taken : (a b : Bool) → (not a && b) ≡ false → b ≡ true → a ≡ true
        was-taken true b none is = refl
        was-taken false b none is = absurd (false≢true (sym none ∙ is))

    pub quiet-word : (count : ℕ) → AreQuiet now (has live) count → AreQuiet new (has less) count
    quiet-word count quiet slot place inside none small = go (cases_Bool (has live slot))
      where
        go : (has live slot ≡ true) ⊎ (has live slot ≡ false) → new slot place ≡ new slot 63
        go (inl is) =
            let all = still slot (gone slot is none) in
            steady-first (new slot) all place small (cases_lt place 1) ∙ sym (steady-first (new slot) all 63 (omega arith) (cases_lt 63 1))
        go (inr none) = others slot place (not-set slot none) ∙ quiet slot place inside none small ∙ sym (others slot 63 (not-set slot none))

    pub told-word : (readers : ℕ → List ℕ) (marks marked : List ℕ) (count first : ℕ) → ((m : ℕ) → has marks m ≡ true → has marked m ≡ true)
        → ((slot : ℕ) → IsSetAt base places slot → slot < count → IsTold readers new marked first slot)
        → AreTold readers now count live marks first (64 * from) → AreTold readers new count less marked first (64 * upto)
    told-word readers marks marked count first kept news told slot under inside is = go (cases_lt slot base) (cases_lt slot (64 * from))
      where
        go : (slot < base) ⊎ (base ≤ slot) → (slot < 64 * from) ⊎ (64 * from ≤ slot) → IsTold readers new marked first slot
        go (inl l) (inl k) =
            told-same readers now new marks marked first slot (λ q. others slot q (λ set. absurd (omega (arith, l, set.is)))) kept (told slot k inside (stays slot is))
        go (inl l) (inr k) = absurd (false≢true (sym (word.none slot k l) ∙ stays slot is))
        go (inr l) k = news slot (live-set slot l (omega (arith, under, word.ends)) (stays slot is)) inside

-- all words have moved on
pub moved-all : (old new : List Planes) (live : ℕ → Bool) (ticks upto : ℕ) → length new ≡ length old → ((slot : ℕ) → upto ≤ slot → slot < length old → live slot ≡ false)
    → AreQuiet (levels_of new) live (length old) → AreMoved (levels_of old) (levels_of new) (length old) ticks upto
    → (slot place : ℕ) → place < 64 → levels_of new slot place ≡ levels_of old slot (min (place + ticks) 63)
moved-all old new live ticks upto len none quiet moved slot place small = go (cases_lt slot (length old))
  where
    all : AreMoved (levels_of old) (levels_of new) (length old) ticks (upto + length old)
    all = moved-passes (levels_of old) (levels_of new) live (length old) ticks upto (upto + length old) (omega arith) (λ m late under inside. none m late inside) quiet moved

    go : (slot < length old) ⊎ (length old ≤ slot) → levels_of new slot place ≡ levels_of old slot (min (place + ticks) 63)
    go (inl l) = all.below slot place (omega (arith, l)) l small
    go (inr l) = levels_of-past new slot place (omega (arith, len, l)) ∙ sym (levels_of-past old slot (min (place + ticks) 63) l)

-- all live slots are told
pub told-all : (readers : ℕ → List ℕ) (words : ℕ → ℕ → Level) (count : ℕ) (live marks : List ℕ) (first upto : ℕ) → ((slot : ℕ) → upto ≤ slot → slot < count → has live slot ≡ false)
    → AreTold readers words count live marks first upto → (slot : ℕ) → slot < count → has live slot ≡ true → IsTold readers words marks first slot
told-all readers words count live marks first upto none told slot inside is = go (cases_lt slot upto)
  where
    go : (slot < upto) ⊎ (upto ≤ slot) → IsTold readers words marks first slot
    go (inl l) = told slot l inside is
    go (inr l) = absurd (false≢true (sym (none slot l inside) ∙ is))
