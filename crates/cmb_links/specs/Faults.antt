-- The numbers of faults.
use Rattle.std.specs.Prelude.{ℕ}
use Rattle.cmb_links.specs.declared.fault.WorkersFault.{WorkersFault}
use Rattle.cmb_links.specs.declared.fault.WorkersFault.TheVariants as workers
use Rattle.cmb_links.specs.declared.fault.LinkFault.{LinkFault}
use Rattle.cmb_links.specs.declared.fault.LinkFault.TheVariants as link

abbrev pub number_of_workers_fault : WorkersFault → ℕ
number_of_workers_fault workers.Workers = 54

abbrev pub number_of_link_fault : LinkFault → ℕ
number_of_link_fault link.Capacity = 48
number_of_link_fault link.Memory = 70
