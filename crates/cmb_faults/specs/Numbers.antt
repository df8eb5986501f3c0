-- The number and the place of each fault, and the line that is printed of it.
use Rattle.std.specs.Prelude.{ℕ, List, ◌++◌, codes, decimal}
use Rattle.cmb_bench.specs.declared.fault.BenchFault.{BenchFault}
use Rattle.cmb_bench.specs.declared.fault.FaultKind.{FaultKind}
use Rattle.cmb_bench.specs.declared.fault.FaultKind.TheVariants as kind
use Rattle.cmb_bench.specs.declared.listed.ListFault.{ListFault}
use Rattle.cmb_bench.specs.declared.listed.ListFault.TheVariants as list_fault
use Rattle.cmb_bench.specs.FirstFault.{number_of_fault}
use Rattle.cmb_design_model.specs.declared.fault.DesignFault.{DesignFault}
use Rattle.cmb_design_model.specs.declared.fault.DesignFault.TheVariants as design_fault
use Rattle.cmb_design_model.specs.Faults.{fault_number, fault_record}
use Rattle.cmb_run_exact.specs.declared.run_fault.RunFault.{RunFault}
use Rattle.cmb_run_exact.specs.declared.run_fault.RunFault.TheVariants as run_fault
use Rattle.cmb_io.specs.declared.write_fault.WriteFault.{WriteFault}
use Rattle.cmb_io.specs.declared.write_fault.WriteFault.TheVariants as write_fault
use Rattle.cmb_faults.specs.declared.fault.Fault.{Fault}
use Rattle.cmb_faults.specs.declared.fault.Fault.TheVariants.{Bench, Design, Unknown, Clusters, Incomplete, Workers, TooLong, Read, Write, Memory}

abbrev pub number_of : Fault → ℕ
number_of (Bench fault) = number_of_fault fault.kind
number_of (Design fault) = fault_number fault
number_of (Unknown line) = 38
number_of Clusters = 40
number_of (Incomplete net upto) = 53
number_of Workers = 54
number_of (TooLong input) = 60
number_of (Read input) = 61
number_of (Write written) = 62
number_of Memory = 70

abbrev pub place_of : Fault → ℕ
place_of (Bench fault) = fault.line
place_of (Design fault) = fault_record fault
place_of (Unknown line) = line
place_of Clusters = 0
place_of (Incomplete net upto) = net
place_of Workers = 0
place_of (TooLong input) = input
place_of (Read input) = input
place_of (Write written) = written
place_of Memory = 0

-- the line that is printed
abbrev pub line_of : Fault → List ℕ
line_of fault = codes "cmbsim: fault " ++ (decimal (number_of fault) ++ (codes " at " ++ (decimal (place_of fault) ++ codes "\n")))

-- a fault of the netlist or of the design as one of the whole simulation: want of memory is one fault in all of them
abbrev pub of_kind : FaultKind → BenchFault → Fault
of_kind kind.Memory fault = Memory
of_kind _ fault = Bench fault

abbrev pub bench_as_fault : BenchFault → Fault
bench_as_fault fault = of_kind fault.kind fault

abbrev pub design_as_fault : DesignFault → Fault
design_as_fault design_fault.Memory = Memory
design_as_fault fault = Design fault

abbrev pub list_as_fault : ListFault → Fault
list_as_fault (list_fault.Unknown line) = Unknown line
list_as_fault list_fault.Memory = Memory

-- of a run that was stopped the collector is let go
abbrev pub run_as_fault : RunFault → Fault
run_as_fault (run_fault.Incomplete net upto collector) = Incomplete net upto
run_as_fault (run_fault.Write written) = Write written
run_as_fault run_fault.Memory = Memory

abbrev pub write_as_fault : WriteFault → Fault
write_as_fault (write_fault.Write written) = Write written
write_as_fault write_fault.Memory = Memory
