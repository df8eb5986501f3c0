-- What words show where something is given of their nets.
use Rattle.std.proofs.Common.{◌≡◌, ℕ, ◌+◌, ◌-◌, ◌<◌, ◌≤◌, ◌⊎◌, inl, inr, min, true, false, ◌||◌, List, [], ◌∷◌, ◌++◌, length, set, refl, sym, ap, subst, ◌∙◌, arith}
use Rattle.std.specs.Prelude.{◌==◌, Contains}
use Rattle.std.proofs.lemmas.Bool.{cases_lt, cases_eq, cases_Bool, eq-eqb, ne_eqb, false≢true, and_from, and_left, and_parts, or_parts}
use Rattle.std.proofs.lemmas.List.Elements.{Contains-append_left, Contains-append_right, Contains-push}
use Rattle.std.proofs.lemmas.List.Folds.{list_any-append}
use Rattle.cmb_wave.specs.declared.level.Level.{Level}
use Rattle.cmb_wheel.specs.declared.event.LevelEvent.{LevelEvent}
use Rattle.cmb_design_model.specs.Design.{Design}
use Rattle.cmb_design_model.specs.Value.{value}
use Rattle.cmb_words.specs.declared.changed.Changed.{Changed}
use Rattle.cmb_words.specs.Changes.{IsStill, is_among}
use Rattle.cmb_words.specs.declared.word.Word.{Word}
use Rattle.cmb_engine.specs.Inner.Planes.{Planes, planes_of}
use Rattle.cmb_words.specs.Word.{level_at_place}
use Rattle.cmb_words.proofs.StillFacts.{still-agrees, still-level}
use Rattle.cmb_words.proofs.TellsFacts.{tells-level, tells-same}
use Rattle.cmb_engine.specs.Inner.Bits.{has}
use Rattle.cmb_engine.specs.Inner.Cells.{Cell, AreMarked, cell_at, is_made}
use Rattle.cmb_engine.specs.Inner.Circuits.{Shows}
use Rattle.cmb_engine.specs.Inner.Gifts.{AreGiven, AreWritten, is_written}
use Rattle.cmb_engine.specs.Inner.Roles.{AreRoles, AreToldNets, gives}
use Rattle.cmb_engine.specs.Inner.Tells.{told_level, AreOfWindow}
use Rattle.cmb_engine.specs.Inner.Traces.{trace_of}
use Rattle.cmb_engine.specs.Inner.Words.{levels_of, Writes}
use Rattle.cmb_engine.specs.declared.cell.Pin.{Pin}
use Rattle.cmb_engine.specs.declared.role.Role.{Role}
use Rattle.cmb_engine.proofs.RoleFacts.{given-inside, given-known, level-present}
use Rattle.cmb_engine.proofs.ShowFacts.{told-keeps, told-same, told-shows}
use Rattle.cmb_engine.proofs.SlotFacts.{trace-net}
use Rattle.cmb_engine.proofs.TraceFacts.{shown}
use Rattle.cmb_engine.proofs.TruthFacts.{in_place-tick}
use Rattle.cmb_engine.proofs.WindowFacts.{IsWindow, moved-below, moved-held}
use Rattle.cmb_engine.proofs.WordFacts.{levels_of-set_same, levels_of-set_other, written-other, written-same}
use Rattle.cmb_engine.proofs.WriteFacts.{writes-none}

-- ---- words

-- a word of which a place stays
pub word-kept : (words : List Planes) (net : ℕ) (word : Word) (slot place : ℕ) → net < length words → level_at_place word place ≡ levels_of words net place
    → levels_of (set words net (planes_of word)) slot place ≡ levels_of words slot place
word-kept words net word slot place inside same = go (cases_eq slot net)
  where
    go : (slot ≡ net) ⊎ (slot ≡ net → ⊥) → levels_of (set words net (planes_of word)) slot place ≡ levels_of words slot place
    go (inl e) =
        ap (λ (s : ℕ). levels_of (set words net (planes_of word)) s place) e ∙ levels_of-set_same words net word place inside ∙ same ∙ ap (λ (s : ℕ). levels_of words s place) (sym e)
    go (inr other) = levels_of-set_other words net slot word place other

-- ---- which nets are written

pub unwritten : (roles : List Role) (given : List Changed) (net : ℕ) → gives roles net ≡ false → is_written roles given net ≡ false
unwritten roles given net h = and_left (gives roles net) (is_among net given) h

pub among-one : (one : Changed) (net : ℕ) → is_among net (one ∷ []) ≡ true → one.net ≡ net
among-one one net h = go (cases_eq one.net net)
  where
    go : (one.net ≡ net) ⊎ (one.net ≡ net → ⊥) → one.net ≡ net
    go (inl e) = e
    go (inr other) = let none : is_among net (one ∷ []) ≡ false = let e : (one.net == net) ≡ false = ne_eqb one.net net other in rw e refl in absurd (false≢true (sym none ∙ h))

pub one-among : (one : Changed) (net : ℕ) → one.net ≡ net → is_among net (one ∷ []) ≡ true
one-among one net same = let e : (one.net == net) ≡ true = eq-eqb one.net net same in rw e refl

-- of one thing
pub written-one : (roles : List Role) (one : Changed) (net : ℕ) → is_written roles (one ∷ []) net ≡ true → (gives roles one.net ≡ true) × (one.net ≡ net)
written-one roles one net is =
    let parts = and_parts (gives roles net) (is_among net (one ∷ [])) is in
    let same : one.net ≡ net = among-one one net parts.1 in
    (ap (gives roles) same ∙ parts.0, same)

unwritten-one : (roles : List Role) (one : Changed) (net : ℕ) → gives roles one.net ≡ true → is_written roles (one ∷ []) net ≡ false → one.net ≡ net → ⊥
unwritten-one roles one net gift isnt same =
    false≢true (sym isnt ∙ and_from (gives roles net) (is_among net (one ∷ [])) (ap (gives roles) (sym same) ∙ gift) (one-among one net same))

-- of some things and of others
written-both : (roles : List Role) (xs ys : List Changed) (net : ℕ) → is_written roles (xs ++ ys) net ≡ (is_written roles xs net || is_written roles ys net)
written-both roles xs ys net = go (cases_Bool (gives roles net))
  where
    go : (gives roles net ≡ true) ⊎ (gives roles net ≡ false) → is_written roles (xs ++ ys) net ≡ (is_written roles xs net || is_written roles ys net)
    go (inl h) = rw h (list_any-append (λ (c : Changed). c.net == net) xs ys)
    go (inr h) = rw h refl

-- what is written, but not by the others, is so by the first ones
pub written-first : (roles : List Role) (xs ys : List Changed) (net : ℕ) → is_written roles (xs ++ ys) net ≡ true → is_written roles ys net ≡ false → is_written roles xs net ≡ true
written-first roles xs ys net is other = go (cases_Bool (is_written roles xs net))
  where
    go : (is_written roles xs net ≡ true) ⊎ (is_written roles xs net ≡ false) → is_written roles xs net ≡ true
    go (inl h) = h
    go (inr h) =
        let none : (is_written roles xs net || is_written roles ys net) ≡ false = rw (h, other) refl in
        absurd (false≢true (sym none ∙ sym (written-both roles xs ys net) ∙ is))

-- ---- words of nets that are written

-- of a net that isn't given nothing is
pub written-none : (roles : List Role) (one : Changed) (words : ℕ → ℕ → Level) (first : ℕ) → gives roles one.net ≡ false → AreWritten roles (one ∷ []) words words first
written-none roles one words first none = record {
  past = λ slot place below. refl;
  others = λ slot place idle. refl;
  written = λ level says slot place is. absurd (false≢true (sym none ∙ (written-one roles one slot is).0));
}

-- the word of a given net is
pub written-its : (roles : List Role) (one : Changed) (old new : ℕ → ℕ → Level) (first : ℕ) → gives roles one.net ≡ true
    → ((slot place : ℕ) → place < first → new slot place ≡ old slot place)
    → ((slot place : ℕ) → (one.net ≡ slot → ⊥) → new slot place ≡ old slot place)
    → ((place : ℕ) → first ≤ place → place < 64 → new one.net place ≡ level_at_place one.word place) → AreWritten roles (one ∷ []) old new first
written-its roles one old new first gift past others here = record {
  past = past;
  others = λ slot place idle. others slot place (unwritten-one roles one slot gift idle);
  written = λ level says slot place is late small.
      let same : one.net ≡ slot = (written-one roles one slot is).1 in
      subst (λ (n : ℕ). new n place ≡ level n place) same (here place late small ∙ says one (Contains-push [] one) gift place late small);
}

-- what is left of one thing that is given: where its net is a given one, the word is written, and who reads the net is marked
pub record IsTaken (roles : List Role) (readers : ℕ → List ℕ) (one : Changed) (first : ℕ) (old new : List Planes) (live more marks marked : List ℕ) : Type 0 where
  pub writes : Writes old new live more marks marked
  pub written : AreWritten roles (one ∷ []) (levels_of old) (levels_of new) first
  pub news : (slot : ℕ) → is_written roles (one ∷ []) slot ≡ true → AreMarked (has marked) (readers slot)

pub taken-not : (roles : List Role) (readers : ℕ → List ℕ) (one : Changed) (first : ℕ) (words : List Planes) (live marks : List ℕ) → gives roles one.net ≡ false
    → IsTaken roles readers one first words words live live marks marks
taken-not roles readers one first words live marks none = record {
  writes = writes-none words live marks;
  written = written-none roles one (levels_of words) first none;
  news = λ slot is. absurd (false≢true (sym none ∙ (written-one roles one slot is).0));
}

pub taken-put : (roles : List Role) (readers : ℕ → List ℕ) (one : Changed) (first : ℕ) (old new : List Planes) (live more marks marked : List ℕ) (word : Word) → gives roles one.net ≡ true
    → one.net < length old → new ≡ set old one.net (planes_of word) → ((place : ℕ) → place < first → level_at_place word place ≡ levels_of old one.net place)
    → ((place : ℕ) → first ≤ place → place < 64 → level_at_place word place ≡ level_at_place one.word place)
    → Writes old new live more marks marked → AreMarked (has marked) (readers one.net) → IsTaken roles readers one first old new live more marks marked
taken-put roles readers one first old new live more marks marked word gift inside is below from writes news = record {
  writes = writes;
  written = written-its roles one (levels_of old) (levels_of new) first gift
      (λ slot place early. ap (λ (words : List Planes). levels_of words slot place) is ∙ word-kept old one.net word slot place inside (below place early))
      (λ slot place other. written-other old new one.net slot word place is (λ e. other (sym e)))
      (λ place late small. written-same old new one.net word place is inside ∙ from place late small);
  news = λ slot is. subst (λ (n : ℕ). AreMarked (has marked) (readers n)) (written-one roles one slot is).1 news;
}

-- some words, and then others
pub written-on : (roles : List Role) (xs ys : List Changed) (old mid new : ℕ → ℕ → Level) (first : ℕ) → AreWritten roles xs old mid first → AreWritten roles ys mid new first
    → AreWritten roles (xs ++ ys) old new first
written-on roles xs ys old mid new first g h = record {
  past = λ slot place below. h.past slot place below ∙ g.past slot place below;
  others = λ slot place idle.
      let parts = or_parts (is_written roles xs slot) (is_written roles ys slot) (sym (written-both roles xs ys slot) ∙ idle) in
      h.others slot place parts.1 ∙ g.others slot place parts.0;
  written = λ level says slot place is late small. by level says slot place is late small (cases_Bool (is_written roles ys slot));
}
  where
    by : (level : ℕ → ℕ → Level)
        → ((one : Changed) → Contains (xs ++ ys) one → gives roles one.net ≡ true → (place : ℕ) → first ≤ place → place < 64 → level_at_place one.word place ≡ level one.net place)
        → (slot place : ℕ) → is_written roles (xs ++ ys) slot ≡ true → first ≤ place → place < 64 → (is_written roles ys slot ≡ true) ⊎ (is_written roles ys slot ≡ false)
        → new slot place ≡ level slot place
    by level says slot place is late small (inl last) = h.written level (λ one among. says one (Contains-append_right xs ys one among)) slot place last late small
    by level says slot place is late small (inr other) =
        h.others slot place other
        ∙ g.written level (λ one among. says one (Contains-append_left xs ys one among)) slot place (written-first roles xs ys slot is other) late small

-- what is given of the design's nets is given of what the slots show
pub given-traced : (design : Design) (roles : List Role) (lines : List Pin) (from to : ℕ) (given : List Changed) → AreRoles design roles → AreGiven (value design) roles from to given
    → AreGiven (trace_of design roles lines) roles from to given
given-traced design roles lines from to given lawful right = record {
  words = λ one among gift.
      tells-same (value design) (trace_of design roles lines) from to one one refl (λ tick. sym (same one.net tick gift)) (right.words one among gift);
  others = λ net gift none. still-agrees (value design net) (trace_of design roles lines net) from to (λ tick late small. sym (same net tick gift)) (right.others net gift none);
}
  where
    same : (net tick : ℕ) → gives roles net ≡ true → trace_of design roles lines net tick ≡ value design net tick
    same net tick gift =
        trace-net design roles lines net tick (omega (arith, given-inside roles net gift, lawful.few))
        ∙ level-present design roles net tick (given-known roles net gift)

-- ---- words into which what is told and given was written

module _ (trace : ℕ → ℕ → Level) (cells : List Cell) (roles : List Role) (from ticks to first most : ℕ) (window : IsWindow from ticks to first most) (old moved told new : ℕ → ℕ → Level)
    (shows : Shows old trace (length cells) from) (moves : (slot place : ℕ) → place < 64 → moved slot place ≡ old slot (min (place + ticks) 63))
    (tells : List LevelEvent) (right : AreOfWindow trace (cell_at cells) (gives roles) (length cells) from to tells) (given : List Changed) (gifts : AreGiven trace roles from to given)
    (told_nets : AreToldNets cells roles)
    (told_words : (slot place : ℕ) → slot < length cells → place < 64 → told slot place ≡ told_level tells slot (moved slot place) (to + place - 64))
    (writes : AreWritten roles given told new first) where
  below : (slot place : ℕ) → slot < length cells → place < first → told slot place ≡ moved slot place
  below slot place inside early =
      told_words slot place inside (omega arith)
      ∙ told-keeps tells slot (to + place - 64) (moved slot place) (λ event among e l. absurd (omega (arith, (right.right event among).1)))

  -- a told slot that isn't given
  told-other : (slot place : ℕ) → slot < length cells → is_made (cell_at cells slot) ≡ false → gives roles slot ≡ false → first ≤ place → place < 64 → told slot place ≡ shown trace to slot place
  told-other slot place inside isnt other late small =
      told_words slot place inside small
      ∙ ap (λ held. told_level tells slot held (to + place - 64)) (moved-held trace from ticks to first most (length cells) window old moved shows moves slot place inside late small)
      ∙ told-shows trace (cell_at cells) (gives roles) (length cells) from to tells slot right window.begun inside isnt other (to + place - 64) (omega arith) (omega arith)
      ∙ sym (in_place-tick (trace slot) to place (omega arith))

  -- a given slot of which nothing is given
  told-still : (slot place : ℕ) → slot < length cells → IsStill (trace slot) from to → first ≤ place → place < 64 → told slot place ≡ shown trace to slot place
  told-still slot place inside still late small =
      told_words slot place inside small
      ∙ told-same tells slot (to + place - 64) (trace slot (to + place - 64)) (moved slot place)
      (λ event among e l.
      (right.right event among).0.level
      ∙ ap (λ n. trace n event.tick) e
      ∙ still-level (trace slot) from to event.tick window.begun still (omega (arith, (right.right event among).1)) (omega (arith, (right.right event among).2))
      ∙ sym now)
      (moved-held trace from ticks to first most (length cells) window old moved shows moves slot place inside late small ∙ sym now)
      ∙ sym (in_place-tick (trace slot) to place (omega arith))
    where
      now : trace slot (to + place - 64) ≡ trace slot (from - 1)
      now = still-level (trace slot) from to (to + place - 64) window.begun still (omega arith) (omega arith)

  -- what is given shows the trace
  word-shows : (one : Changed) → Contains given one → gives roles one.net ≡ true → (place : ℕ) → first ≤ place → place < 64 → level_at_place one.word place ≡ shown trace to one.net place
  word-shows one among gift place late small =
      let at : to + place - 64 + 64 - to ≡ place = omega arith in
      ap (level_at_place one.word) (sym at)
      ∙ tells-level trace from to one (gifts.words one among gift) (to + place - 64) (omega arith) (omega arith)
      ∙ sym (in_place-tick (trace one.net) to place (omega arith))

  -- all told slots show the trace
  pub written-true : (slot place : ℕ) → slot < length cells → is_made (cell_at cells slot) ≡ false → place < 64 → new slot place ≡ shown trace to slot place
  written-true slot place inside isnt small = go (cases_lt place first)
    where
      by_gift : first ≤ place → gives roles slot ≡ true → (is_among slot given ≡ true) ⊎ (is_among slot given ≡ false) → new slot place ≡ shown trace to slot place
      by_gift late gift (inl among) = writes.written (shown trace to) word-shows slot place (and_from (gives roles slot) (is_among slot given) gift among) late small
      by_gift late gift (inr none) =
          let idle : is_written roles given slot ≡ false = rw (gift, none) refl in
          writes.others slot place idle ∙ told-still slot place inside (gifts.others slot gift none) late small

      by_role : first ≤ place → (gives roles slot ≡ true) ⊎ (gives roles slot ≡ false) → new slot place ≡ shown trace to slot place
      by_role late (inl gift) = by_gift late gift (cases_Bool (is_among slot given))
      by_role late (inr other) = writes.others slot place (unwritten roles given slot other) ∙ told-other slot place inside isnt other late small

      go : (place < first) ⊎ (first ≤ place) → new slot place ≡ shown trace to slot place
      go (inl l) =
          writes.past slot place l
          ∙ below slot place inside l
          ∙ moved-below trace from ticks to first most (length cells) window old moved shows moves slot place inside l
      go (inr l) = by_role l (cases_Bool (gives roles slot))

  -- a made slot is neither told nor given
  pub made-kept : (slot place : ℕ) → slot < length cells → is_made (cell_at cells slot) ≡ true → place < 64 → new slot place ≡ moved slot place
  made-kept slot place inside made small =
      writes.others slot place (unwritten roles given slot (idle (cases_Bool (gives roles slot))))
      ∙ told_words slot place inside small
      ∙ told-keeps tells slot (to + place - 64) (moved slot place)
      (λ event among e l. false≢true (sym (subst (λ (n : ℕ). is_made (cell_at cells n) ≡ false) e (right.right event among).0.told) ∙ made))
    where
      idle : (gives roles slot ≡ true) ⊎ (gives roles slot ≡ false) → gives roles slot ≡ false
      idle (inl gift) = absurd (false≢true (sym (told_nets slot gift).1 ∙ made))
      idle (inr other) = other

  -- a slot whose readers aren't all marked is as it was
  pub unmarked-kept : (readers : ℕ → List ℕ) (marks : List ℕ) → ((event : LevelEvent) → Contains tells event → AreMarked (has marks) (readers event.slot))
      → ((slot : ℕ) → is_written roles given slot ≡ true → AreMarked (has marks) (readers slot))
      → (slot : ℕ) → slot < length cells → (AreMarked (has marks) (readers slot) → ⊥) → (place : ℕ) → place < 64 → new slot place ≡ moved slot place
  unmarked-kept readers marks told_news given_news slot inside none place small =
      writes.others slot place (idle (cases_Bool (is_written roles given slot)))
      ∙ told_words slot place inside small
      ∙ told-keeps tells slot (to + place - 64) (moved slot place) (λ event among e l. none (subst (λ (n : ℕ). AreMarked (has marks) (readers n)) e (told_news event among)))
    where
      idle : (is_written roles given slot ≡ true) ⊎ (is_written roles given slot ≡ false) → is_written roles given slot ≡ false
      idle (inl h) = absurd (none (given_news slot h))
      idle (inr h) = h
