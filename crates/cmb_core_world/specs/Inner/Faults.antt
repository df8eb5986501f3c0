-- The faults of clusters as those of events.
use Rattle.cmb_core_cluster.specs.declared.delivery.DeliverFault.{DeliverFault}
use Rattle.cmb_core_cluster.specs.declared.delivery.DeliverFault.TheVariants.{Stranger, Gap, Old, Clash, Memory}
use Rattle.cmb_core_protocol.specs.declared.event.PlayFault.{PlayFault}
use Rattle.cmb_core_protocol.specs.declared.event.PlayFault.TheVariants.{Stranger as PlayStranger, Gap as PlayGap, Old as PlayOld, Clash as PlayClash, Memory as PlayMemory}

abbrev pub fault_of_event : DeliverFault → PlayFault
fault_of_event Stranger = PlayStranger
fault_of_event (Gap clock) = PlayGap clock
fault_of_event (Old clock) = PlayOld clock
fault_of_event (Clash tick) = PlayClash tick
fault_of_event Memory = PlayMemory
