-- What contracts see of a word: its level at each of its 64 places.
use Rattle.std.specs.Prelude.{◌≡◌, ℕ, ◌<◌, ◌≤◌}
use Rattle.cmb_wave.specs.declared.level.Level.{Level}
use Rattle.cmb_words.specs.declared.word.Word.{Word}
use Rattle.cmb_words.specs.Bits.{level_in}

-- the level of a word at a place
abbrev pub level_at_place : Word → ℕ → Level
level_at_place word place = level_in word.ones word.unknown place

-- two words have the same levels at a place and after it
abbrev pub SameFrom : Word → Word → ℕ → Type 0
SameFrom word other from = (place : ℕ) → from ≤ place → place < 64 → level_at_place word place ≡ level_at_place other place
