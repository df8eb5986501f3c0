-- Words in a list, and gates over them.
use Rattle.std.proofs.Common.{◌≡◌, ℕ, zero, suc, ◌+◌, ◌<◌, ◌≤◌, ◌≢◌, List, [], ◌∷◌, ◌++◌, length, map, get_or, set, take, refl, sym, ap, ◌∙◌, arith}
use Rattle.std.proofs.lemmas.List.{map_more, length-map, length-take}
use Rattle.cmb_wave.specs.declared.level.Level.{Level}
use Rattle.cmb_netlist.specs.declared.netlist.Kind.{Kind}
use Rattle.cmb_words.specs.declared.word.Word.{Word}
use Rattle.cmb_engine.specs.Inner.Planes.{Planes, planes_of}
use Rattle.cmb_words.specs.Bits.{level_in}
use Rattle.cmb_words.specs.Word.{level_at_place}
use Rattle.cmb_words.specs.Joint.{joint}
use Rattle.cmb_engine.specs.Inner.Words.{levels_of}
use Rattle.cmb_engine.specs.declared.cell.Pin.{Pin}

-- the level of a word at a place, by its planes
abbrev pub level_of_planes : Planes → ℕ → Level
level_of_planes planes place = level_in planes.ones planes.unknown place

pub levels_of-get_or : (words : List Planes) (net : ℕ) (word : Planes) (place : ℕ) → net < length words → levels_of words net place ≡ level_of_planes (get_or words net word) place
levels_of-get_or [] net word place h = absurd (omega arith)
levels_of-get_or (w ∷ words) zero word place h = refl
levels_of-get_or (w ∷ words) (suc net) word place h = levels_of-get_or words net word place (omega arith)

-- what a read of a word tells
pub levels_of-read : (words : List Planes) (net : ℕ) (word : Word) (place : ℕ) → net < length words → planes_of word ≡ get_or words net (planes_of word) → levels_of words net place ≡ level_at_place word place
levels_of-read words net word place h is = levels_of-get_or words net (planes_of word) place h ∙ sym (ap (λ w. level_of_planes w place) is)

pub levels_of-set_same : (words : List Planes) (net : ℕ) (word : Word) (place : ℕ) → net < length words → levels_of (set words net (planes_of word)) net place ≡ level_at_place word place
levels_of-set_same [] net word place h = absurd (omega arith)
levels_of-set_same (w ∷ words) zero word place h = refl
levels_of-set_same (w ∷ words) (suc net) word place h = levels_of-set_same words net word place (omega arith)

pub levels_of-set_other : (words : List Planes) (net other : ℕ) (word : Word) (place : ℕ) → other ≢ net → levels_of (set words net (planes_of word)) other place ≡ levels_of words other place
levels_of-set_other [] net other word place h = refl
levels_of-set_other (w ∷ words) zero zero word place h = absurd (h refl)
levels_of-set_other (w ∷ words) zero (suc other) word place h = refl
levels_of-set_other (w ∷ words) (suc net) zero word place h = refl
levels_of-set_other (w ∷ words) (suc net) (suc other) word place h = levels_of-set_other words net other word place (λ e. h (ap suc e))

-- the same of words among which one was written
pub written-same : (old new : List Planes) (net : ℕ) (word : Word) (place : ℕ) → new ≡ set old net (planes_of word) → net < length old → levels_of new net place ≡ level_at_place word place
written-same old new net word place is h = ap (λ (words : List Planes). levels_of words net place) is ∙ levels_of-set_same old net word place h

pub written-other : (old new : List Planes) (net other : ℕ) (word : Word) (place : ℕ) → new ≡ set old net (planes_of word) → other ≢ net → levels_of new other place ≡ levels_of old other place
written-other old new net other word place is h = ap (λ (words : List Planes). levels_of words other place) is ∙ levels_of-set_other old net other word place h

-- one more operand of a gate that has some
pub joint-more : (kind : Kind) (levels : List Level) (joined result operand : Level) → 1 ≤ length levels
    → ((first : Level) (others : List Level) → joined ≡ joint kind (first ∷ others) → result ≡ joint kind ((first ∷ others) ++ operand ∷ []))
    → joined ≡ joint kind levels → result ≡ joint kind (levels ++ operand ∷ [])
joint-more kind [] joined result operand some more h = absurd (omega arith)
joint-more kind (first ∷ others) joined result operand some more h = more first others h

pub joint-pins : (kind : Kind) (f : Pin → Level) (pins : List Pin) (k : ℕ) (d : Pin) (joined result operand : Level) → 1 ≤ k → k < length pins
    → operand ≡ f (get_or pins k d)
    → ((first : Level) (others : List Level) → joined ≡ joint kind (first ∷ others) → result ≡ joint kind ((first ∷ others) ++ operand ∷ []))
    → joined ≡ joint kind (map f (take k pins)) → result ≡ joint kind (map f (take (k + 1) pins))
joint-pins kind f pins k d joined result operand some inside is more h =
    let len : 1 ≤ length (map f (take k pins)) = omega (arith, length-map (take k pins) f, length-take k pins) in
    joint-more kind (map f (take k pins)) joined result operand len more h
    ∙ ap (λ level. joint kind (map f (take k pins) ++ level ∷ [])) is
    ∙ ap (joint kind) (sym (map_more f pins k d inside))
