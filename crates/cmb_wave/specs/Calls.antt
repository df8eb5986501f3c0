-- What the calls on pieces and waves answer, and what they leave. An answer with faults names the first one that stands.
use Rattle.std.specs.Prelude.{◌≡◌, ℕ, ◌+◌, ◌*◌, ◌^◌, Bool, true, ◌&&◌, not, nat_le, nat_lt, nat_eq, List, [], ◌∷◌, if◌then◌else◌, Result, Ok, Err, IsOk, Option, Some, None}
use Rattle.cmb_wave.specs.declared.level.Change.{Change}
use Rattle.cmb_wave.specs.declared.level.Promise.{Promise}
use Rattle.cmb_wave.specs.declared.level.Heard.{Heard}
use Rattle.cmb_wave.specs.declared.level.Heard.TheVariants.{Old as HeardOld, Extended, Ahead}
use Rattle.cmb_wave.specs.declared.piece.PieceFault.{PieceFault}
use Rattle.cmb_wave.specs.declared.piece.PieceFault.TheVariants.{EmptySpan, Order, Outside, SameLevel}
use Rattle.cmb_wave.specs.declared.wave.WaveFault.{WaveFault}
use Rattle.cmb_wave.specs.declared.wave.WaveFault.TheVariants.{Gap, Old, Clash, Memory}
use Rattle.cmb_wave.specs.Waveform.{same_level, last_level, at_or_after, clash}
use Rattle.cmb_wave.specs.Wave.{Piece, Wave, wave_with_piece, wave_up_to, cut_of}

-- ---- pieces of lists of changes

-- each tick is above the one before it
abbrev pub rises : List Change → Bool
rises [] = true
rises (c ∷ []) = true
rises (c ∷ d ∷ cs) = nat_lt c.tick d.tick && rises (d ∷ cs)

-- each tick stands in the span
abbrev pub inside : ℕ → ℕ → List Change → Bool
inside from to [] = true
inside from to (c ∷ cs) = nat_le from c.tick && nat_lt c.tick to && inside from to cs

-- no level is that of the change before it
abbrev pub differs : List Change → Bool
differs [] = true
differs (c ∷ []) = true
differs (c ∷ d ∷ cs) = not (same_level d.level c.level) && differs (d ∷ cs)

-- the piece of a list of changes, or its first fault: an empty span, ticks that don't rise, a tick outside the span, neighbours of one level
abbrev pub checked_piece : ℕ → ℕ → ℕ → List Change → Result Piece PieceFault
checked_piece net from to changes =
    if nat_le to from then Err EmptySpan
    else if not (rises changes) then Err Order
    else if not (inside from to changes) then Err Outside
    else if not (differs changes) then Err SameLevel
    else Ok (record { net = net; from = from; to = to; changes = changes })

-- ---- waves that take pieces

-- the wave with a piece, unless a change at this tick clashes
abbrev pub joined : Wave → Piece → Option ℕ → Result Wave WaveFault
joined wave piece None = Ok (wave_with_piece wave piece)
joined wave piece (Some tick) = Err (Clash tick)

-- the wave after it took a piece, or why it doesn't: the piece begins after the clock, it ends by the clock, or its first change at or after the clock is to the level that the wave ends with
abbrev pub taken : Wave → Piece → Result Wave WaveFault
taken wave piece =
    if nat_lt wave.clock piece.from then Err (Gap wave.clock)
    else if nat_le piece.to wave.clock then Err (Old wave.clock)
    else joined wave piece (clash (last_level wave.kept wave.changes) (at_or_after wave.clock piece.changes))

-- a refusal is the fault that stands, and want of memory is answered where none does
abbrev pub RefusesAs : WaveFault → Result Wave WaveFault → Type 0
RefusesAs Memory result = IsOk result
RefusesAs fault result = result ≡ Err fault

-- the part of a wave from a tick on, none where that is its clock
abbrev pub cut : Wave → ℕ → Option Piece
cut wave from = if nat_eq from wave.clock then None else Some (cut_of wave from)

-- ---- promises

-- what a wave makes of a promise: it is known as far already, it has all the changes that the net has up to there, or some are still to come
abbrev pub hears : Wave → Promise → Heard
hears wave promise =
    if nat_le promise.upto wave.clock then HeardOld
    else if nat_eq wave.count promise.count then Extended
    else Ahead

-- the wave after a promise: known up to the promise's tick where no change is missing, else as it was
abbrev pub heard_wave : Wave → Promise → Wave
heard_wave wave promise =
    if nat_le promise.upto wave.clock then wave
    else if nat_eq wave.count promise.count then wave_up_to wave promise.upto
    else wave

-- what a wave itself can promise: it has so many changes up to its clock
abbrev pub promised : Wave → Promise
promised wave = record { net = wave.net; count = wave.count; upto = wave.clock }

-- a promise in one word of 64 bits, without its net: the count above, the tick in the low 32 bits
abbrev pub word_of : Promise → ℕ
word_of promise = promise.count * 2 ^ 32 + promise.upto
