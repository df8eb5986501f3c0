use Rattle.std.proofs.Common.{◌≡◌, ℕ, ◌+◌, ◌-◌, ◌<◌, List, get_or, inl, set, min, length, sym, ◌∙◌}
use Rattle.cmb_words.specs.declared.word.Word.{Word}
use Rattle.cmb_words.specs.Word.{level_at_place}
use Rattle.cmb_engine.specs.Inner.Planes.{Planes, planes_of}
use Rattle.cmb_engine.specs.Inner.Cells.{IsSteadyFrom}
use Rattle.cmb_engine.specs.Inner.Words.{levels_of}
use Rattle.cmb_engine.proofs.MoveFacts.{steady-later}
use Rattle.cmb_engine.proofs.WordFacts.{levels_of-read, written-other, written-same}
use Rattle.cmb_engine.proofs.moves.move_slot.Goals as goal
use Rattle.cmb_engine.proofs.moves.move_slot.Goals.{else-not-is_still-via-then-not-is_still+else-not-is_steady_from, else-not-is_still-via-else-not-is_still}

-- the word that was read has moved on
moved : (words new : List Planes) (slot ticks : ℕ) (read word : Word) → slot < length words → new ≡ set words slot (planes_of word) → planes_of read ≡ get_or words slot (planes_of read)
    → ((i : ℕ) → i < 64 → level_at_place word i ≡ level_at_place read (min (i + ticks) 63))
    → (place : ℕ) → place < 64 → levels_of new slot place ≡ levels_of words slot (min (place + ticks) 63)
moved words new slot ticks read word inside written is moves place small =
    written-same words new slot word place written inside ∙ moves place small ∙ sym (levels_of-read words slot read (min (place + ticks) 63) inside is)

-- a word that was written is as steady as it is
steady-written : (words new : List Planes) (slot first : ℕ) (word : Word) → slot < length words → new ≡ set words slot (planes_of word) → IsSteadyFrom (level_at_place word) first
    → IsSteadyFrom (levels_of new slot) first
steady-written words new slot first word inside written steady place from small =
    written-same words new slot word place written inside ∙ steady place from small ∙ sym (written-same words new slot word (first - 1) written inside)

pub returns-then-not-is_steady_from-clause-others : goal.returns-then-not-is_steady_from-clause-others
returns-then-not-is_steady_from-clause-others c = λ m place other. written-other c.args.words.now c.set.new.self c.args.slot m c.advanced-word.result place c.set.ensures other

pub returns-then-not-is_steady_from-clause-moved : goal.returns-then-not-is_steady_from-clause-moved
returns-then-not-is_steady_from-clause-moved c =
    moved c.args.words.now c.set.new.self c.args.slot c.args.ticks c.get.result c.advanced-word.result c.requires.slot c.set.ensures (c.get.ensures (planes_of c.get.result)) c.advanced-word.ensures

pub returns-else-not-is_still-clause-others : goal.returns-else-not-is_still-clause-others
returns-else-not-is_still-clause-others c = λ m place other. written-other c.args.words.now c.set.new.self c.args.slot m c.advanced-word.result place c.set.ensures other

pub returns-else-not-is_still-clause-moved : goal.returns-else-not-is_still-clause-moved
returns-else-not-is_still-clause-moved c =
    moved c.args.words.now c.set.new.self c.args.slot c.args.ticks c.get.result c.advanced-word.result c.requires.slot c.set.ensures (c.get.ensures (planes_of c.get.result)) c.advanced-word.ensures

pub returns-else-not-is_still-clause-steady : goal.returns-else-not-is_still-clause-steady
returns-else-not-is_still-clause-steady c = λ still. steady-written c.args.words.now c.set.new.self c.args.slot 1 c.advanced-word.result c.requires.slot c.set.ensures (c.is_steady_from-is_still.ensures.steady still)

pub returns-else-not-is_still-clause-news : goal.returns-else-not-is_still-clause-news
returns-else-not-is_still-clause-news c =
    elim c.else-not-is_still.branch [
      | else-not-is_still-via-then-not-is_still+else-not-is_steady_from w ↦
          inl (steady-written c.args.words.now c.set.new.self c.args.slot c.args.first c.advanced-word.result c.requires.slot c.set.ensures (w.is_steady_from.ensures.steady w.if-not-is_steady_from.false))
      | else-not-is_still-via-else-not-is_still w ↦
          inl (steady-written c.args.words.now c.set.new.self c.args.slot c.args.first c.advanced-word.result c.requires.slot c.set.ensures
          (steady-later (level_at_place c.advanced-word.result) c.args.first c.requires.first (c.is_steady_from-is_still.ensures.steady w.if-not-is_still.false)))
    ]
