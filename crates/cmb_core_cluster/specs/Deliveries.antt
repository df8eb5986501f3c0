-- Faults of waves as faults of clusters.
use Rattle.cmb_wave.specs.declared.wave.WaveFault.{WaveFault}
use Rattle.cmb_wave.specs.declared.wave.WaveFault.TheVariants.{Gap as WaveGap, Old as WaveOld, Clash as WaveClash, Memory as WaveMemory}
use Rattle.cmb_core_cluster.specs.declared.delivery.DeliverFault.{DeliverFault}
use Rattle.cmb_core_cluster.specs.declared.delivery.DeliverFault.TheVariants.{Gap, Old, Clash, Memory}

-- a fault of a wave as a fault of its cluster
abbrev pub delivery_fault : WaveFault → DeliverFault
delivery_fault (WaveGap clock) = Gap clock
delivery_fault (WaveOld clock) = Old clock
delivery_fault (WaveClash tick) = Clash tick
delivery_fault WaveMemory = Memory
