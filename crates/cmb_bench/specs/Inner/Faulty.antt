-- What reading answers, with its errors apart.
use Rattle.std.specs.Prelude.{◌≡◌, ℕ, List, Result, Ok, Err}
use Rattle.cmb_bench.specs.declared.fault.ReadError.{ReadError}
use Rattle.cmb_bench.specs.declared.fault.ReadError.TheVariants as errors
use Rattle.cmb_netlist.specs.Netlist.{Netlist}
use Rattle.cmb_bench.specs.FirstFault.{IsFirstFault}

-- memory ran out, or this is the first fault
abbrev pub IsFaulty : List ℕ → ReadError → Type 0
IsFaulty bytes errors.Memory = Unit {0}
IsFaulty bytes (errors.Fault f) = IsFirstFault bytes f

-- what a reader may answer of a text that spells this netlist: the netlist, or want of memory
abbrev pub AnswersOnly : Result Netlist ReadError → Netlist → Type 0
AnswersOnly (Ok n) c = n ≡ c
AnswersOnly (Err errors.Memory) c = Unit {0}
AnswersOnly (Err (errors.Fault f)) c = ⊥
