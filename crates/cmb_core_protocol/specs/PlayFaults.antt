-- The number by which a program tells each fault of an event.
use Rattle.std.specs.Prelude.{ℕ}
use Rattle.cmb_core_protocol.specs.declared.event.PlayFault.{PlayFault}
use Rattle.cmb_core_protocol.specs.declared.event.PlayFault.TheVariants.{NoSuch, Beyond, Stranger, Gap, Old, Clash, Memory}

abbrev pub number_of_play_fault : PlayFault → ℕ
number_of_play_fault NoSuch = 45
number_of_play_fault Beyond = 46
number_of_play_fault Stranger = 44
number_of_play_fault (Gap clock) = 42
number_of_play_fault (Old clock) = 43
number_of_play_fault (Clash tick) = 47
number_of_play_fault Memory = 70
