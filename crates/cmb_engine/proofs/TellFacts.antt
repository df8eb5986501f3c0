-- What words show where something is told of their slots.
use Rattle.std.proofs.Common.{◌≡◌, ℕ, ◌+◌, ◌-◌, ◌<◌, ◌≤◌, ◌⊎◌, inl, inr, true, false, ◌&&◌, ◌==◌, List, [], ◌∷◌, ◌++◌, length, get_or, set, take, refl, sym, ap, ◌∙◌, arith}
use Rattle.std.specs.Prelude.{nat_le, if◌then◌else◌}
use Rattle.std.proofs.lemmas.Bool.{cases_lt, cases_eq, ne_eqb, eq-eqb, le-leb, lt-leb, and_from, and_left, and_right}
use Rattle.std.proofs.lemmas.List.{take_more}
use Rattle.cmb_wave.specs.declared.level.Level.{Level}
use Rattle.cmb_words.specs.declared.word.Word.{Word}
use Rattle.cmb_engine.specs.Inner.Planes.{Planes, planes_of}
use Rattle.cmb_words.specs.Word.{level_at_place}
use Rattle.cmb_wheel.specs.declared.event.LevelEvent.{LevelEvent}
use Rattle.cmb_engine.specs.Inner.Tells.{told_level}
use Rattle.cmb_engine.specs.Inner.Words.{levels_of}
use Rattle.cmb_engine.proofs.WordFacts.{levels_of-set_same, levels_of-set_other}

pub told-append : (early late : List LevelEvent) (slot : ℕ) (held : Level) (tick : ℕ) → told_level (early ++ late) slot held tick ≡ told_level late slot (told_level early slot held tick) tick
told-append [] late slot held tick = refl
told-append (event ∷ early) late slot held tick =
    told-append early late slot (if event.slot == slot && nat_le event.tick tick then event.level else held) tick

-- one tell more
pub told-more : (tells : List LevelEvent) (k : ℕ) (d : LevelEvent) (slot : ℕ) (held : Level) (tick : ℕ) → k < length tells
    → told_level (take (k + 1) tells) slot held tick ≡ told_level (get_or tells k d ∷ []) slot (told_level (take k tells) slot held tick) tick
told-more tells k d slot held tick small =
    ap (λ (some : List LevelEvent). told_level some slot held tick) (take_more tells k d small)
    ∙ told-append (take k tells) (get_or tells k d ∷ []) slot held tick

-- a word that has the tell's level from its place on, and is the slot's own below it, shows what is told
pub told-written : (words : List Planes) (event : LevelEvent) (word : Word) (to slot place : ℕ) → event.slot < length words → 1 ≤ event.tick → to ≤ event.tick + 64
    → ((i : ℕ) → i < event.tick + 64 - to → level_at_place word i ≡ levels_of words event.slot i)
    → ((i : ℕ) → event.tick + 64 - to ≤ i → i < 64 → level_at_place word i ≡ event.level) → place < 64
    → levels_of (set words event.slot (planes_of word)) slot place ≡ told_level (event ∷ []) slot (levels_of words slot place) (to + place - 64)
told-written words event word to slot place inside begun reaches below from small = go (cases_eq slot event.slot) (cases_lt place (event.tick + 64 - to))
  where
    at : slot ≡ event.slot → levels_of (set words event.slot (planes_of word)) slot place ≡ level_at_place word place
    at e = ap (λ (s : ℕ). levels_of (set words event.slot (planes_of word)) s place) e ∙ levels_of-set_same words event.slot word place inside

    go : (slot ≡ event.slot) ⊎ (slot ≡ event.slot → ⊥) → (place < event.tick + 64 - to) ⊎ (event.tick + 64 - to ≤ place)
        → levels_of (set words event.slot (planes_of word)) slot place ≡ told_level (event ∷ []) slot (levels_of words slot place) (to + place - 64)
    go (inl e) (inl l) =
        let early : (event.slot == slot && nat_le event.tick (to + place - 64)) ≡ false = and_right (event.slot == slot) _ (lt-leb event.tick (to + place - 64) (omega arith)) in
        rw early (at e ∙ below place l ∙ ap (λ (s : ℕ). levels_of words s place) (sym e))
    go (inl e) (inr l) =
        let now : (event.slot == slot && nat_le event.tick (to + place - 64)) ≡ true =
        and_from _ _ (eq-eqb event.slot slot (sym e)) (le-leb event.tick (to + place - 64) (omega arith)) in
        rw now (at e ∙ from place l small)
    go (inr other) _ =
        let not_it : (event.slot == slot && nat_le event.tick (to + place - 64)) ≡ false = and_left _ (nat_le event.tick (to + place - 64)) (ne_eqb event.slot slot (λ e. other (sym e))) in
        rw not_it (levels_of-set_other words event.slot slot word place other)
