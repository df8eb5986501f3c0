-- The number of each fault, by which a program tells it.
use Rattle.std.specs.Prelude.{ℕ}
use Rattle.cmb_wave.specs.declared.piece.PieceFault.{PieceFault}
use Rattle.cmb_wave.specs.declared.piece.PieceFault.TheVariants.{EmptySpan, Order, Outside, SameLevel, Memory as PieceMemory}
use Rattle.cmb_wave.specs.declared.wave.WaveFault.{WaveFault}
use Rattle.cmb_wave.specs.declared.wave.WaveFault.TheVariants.{Gap, Old, Clash, Memory as WaveMemory}

-- the number of a fault of a list of changes that is no piece
abbrev pub number_of_piece_fault : PieceFault → ℕ
number_of_piece_fault EmptySpan = 10
number_of_piece_fault Order = 11
number_of_piece_fault Outside = 12
number_of_piece_fault SameLevel = 13
number_of_piece_fault PieceMemory = 70

-- the number of a fault of a piece that a wave doesn't take
abbrev pub number_of_wave_fault : WaveFault → ℕ
number_of_wave_fault (Gap clock) = 14
number_of_wave_fault (Old clock) = 15
number_of_wave_fault (Clash tick) = 16
number_of_wave_fault WaveMemory = 70
