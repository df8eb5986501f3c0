-- What contracts see of a piece and of a wave, when they hold a waveform exactly, and what becomes of them.
-- A wave is a channel of Chandy and Misra (1979) with its clock: the messages on it are pieces, and promises are its null messages.
use Rattle.std.specs.Prelude.{◌≡◌, ℕ, ◌+◌, ◌<◌, ◌≤◌, List, [], ◌++◌, length}
use Rattle.cmb_wave.specs.declared.level.Level.{Level}
use Rattle.cmb_wave.specs.declared.level.Level.TheVariants.{X}
use Rattle.cmb_wave.specs.declared.level.Change.{Change}
use Rattle.cmb_wave.specs.declared.level.Promise.{Promise}
use Rattle.cmb_wave.specs.Waveform.{level_before, changes_between, count_below, at_or_after, changes_below, last_level}

-- the changes of a net at the ticks of [from, to)
pub record Piece : Type 0 where
  pub net : ℕ
  pub from : ℕ
  pub to : ℕ
  pub changes : List Change

-- what is known of a net: it has `count` changes below the clock. Those from the base on are kept, and `kept` is the level one tick before the base, x at base 0
pub record Wave : Type 0 where
  pub net : ℕ
  pub base : ℕ
  pub clock : ℕ
  pub count : ℕ
  pub kept : Level
  pub changes : List Change

-- ---- exact and right: `level` is the waveform of the net, which is defined below the horizon

-- the piece has the waveform's changes in its span, and no others
pub record IsExactPiece (level : ℕ → Level) (horizon : ℕ) (piece : Piece) : Type 0 where
  pub not_empty : piece.from < piece.to
  pub within : piece.to ≤ horizon
  pub changes : piece.changes ≡ changes_between level piece.from piece.to

-- the wave has the waveform's changes from its base up to its clock, its count of changes up to there, and its level before the base
pub record IsExactWave (level : ℕ → Level) (horizon : ℕ) (wave : Wave) : Type 0 where
  pub base : wave.base ≤ wave.clock
  pub within : wave.clock ≤ horizon
  pub count : wave.count ≡ count_below level wave.clock
  pub changes : wave.changes ≡ changes_between level wave.base wave.clock
  pub kept : wave.kept ≡ level_before level wave.base

-- the waveform has as many changes below the promise's tick as it says
pub record IsRightPromise (level : ℕ → Level) (horizon : ℕ) (promise : Promise) : Type 0 where
  pub within : promise.upto ≤ horizon
  pub count : promise.count ≡ count_below level promise.upto

-- ---- what becomes of a wave

-- a wave of which nothing is known
abbrev pub new_wave : ℕ → Wave
new_wave net = record { net = net; base = 0; clock = 0; count = 0; kept = X; changes = [] }

-- the wave with more changes, up to a later clock
abbrev pub grown : Wave → ℕ → List Change → Wave
grown wave to changes = record {
  net = wave.net;
  base = wave.base;
  clock = to;
  count = wave.count + length changes;
  kept = wave.kept;
  changes = wave.changes ++ changes;
}

-- the wave after a piece that adjoins or overlaps it: of the piece's changes those at or after the clock are added
abbrev pub wave_with_piece : Wave → Piece → Wave
wave_with_piece wave piece = grown wave piece.to (at_or_after wave.clock piece.changes)

-- the wave after a promise of no further change below a tick
abbrev pub wave_up_to : Wave → ℕ → Wave
wave_up_to wave upto = record wave { clock = upto }

-- the wave without its changes below a tick: the base is then that tick, and the level before it is kept, with the count of all changes
abbrev pub wave_from : Wave → ℕ → Wave
wave_from wave upto = record {
  net = wave.net;
  base = upto;
  clock = wave.clock;
  count = wave.count;
  kept = last_level wave.kept (changes_below upto wave.changes);
  changes = at_or_after upto wave.changes;
}

-- the piece of the wave from a tick up to its clock
abbrev pub cut_of : Wave → ℕ → Piece
cut_of wave from = record { net = wave.net; from = from; to = wave.clock; changes = at_or_after from wave.changes }
