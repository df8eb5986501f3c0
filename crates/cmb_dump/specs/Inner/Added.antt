-- What a window adds to a text.
use Rattle.std.specs.Prelude.{◌≡◌, ℕ, List, ◌++◌, length}
use Rattle.cmb_wave.specs.declared.level.Level.{Level}
use Rattle.cmb_run_text.specs.Vcd.{part_text}
use Rattle.cmb_words.specs.Changes.{Tells}
use Rattle.cmb_words.specs.declared.changed.Changed.{Changed}

-- what a window adds to the text of so many nets, whatever they are, where its changes tell of their levels
abbrev pub IsPart : ℕ → ℕ → ℕ → ℕ → List Changed → List ℕ → Type 0
IsPart nets horizon from upto changed text =
    (names : List (List ℕ)) (level : ℕ → ℕ → Level) → length names ≡ nets → Tells level nets from upto changed
    → part_text names horizon level upto ≡ part_text names horizon level from ++ text
