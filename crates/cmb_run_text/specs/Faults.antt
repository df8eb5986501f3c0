-- Why a collector takes no piece.
use Rattle.std.specs.Prelude.{ℕ}
use Rattle.cmb_wave.specs.declared.wave.WaveFault.{WaveFault}
use Rattle.cmb_wave.specs.declared.wave.WaveFault.TheVariants as wave_fault
use Rattle.cmb_run_text.specs.declared.fault.CollectFault.{CollectFault}
use Rattle.cmb_run_text.specs.declared.fault.CollectFault.TheVariants.{Stranger, Gap, Double, Clash, Memory}

abbrev pub number_of_collect_fault : CollectFault → ℕ
number_of_collect_fault (Clash tick) = 49
number_of_collect_fault (Gap clock) = 50
number_of_collect_fault (Double clock) = 51
number_of_collect_fault Stranger = 52
number_of_collect_fault Memory = 70

-- what the refusal of a net's wave is to the collector: a piece that ends by the clock was there before
abbrev pub collect_fault : WaveFault → CollectFault
collect_fault (wave_fault.Gap clock) = Gap clock
collect_fault (wave_fault.Old clock) = Double clock
collect_fault (wave_fault.Clash tick) = Clash tick
collect_fault wave_fault.Memory = Memory
