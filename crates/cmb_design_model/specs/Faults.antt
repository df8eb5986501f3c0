-- The numbers of faults, and the records at which they stand.
use Rattle.std.specs.Prelude.{ℕ}
use Rattle.cmb_design_model.specs.declared.fault.DesignFault.{DesignFault}
use Rattle.cmb_design_model.specs.declared.fault.DesignFault.TheVariants.{Horizon, Clock, NoClock, Header, Fields, Number, UnknownNet, UnknownKind, DelayRange, RepeatedRow, NotInput, Level, DelayOfInput, TableTooLarge, PinName, NoPin, ClockRange, NotFlop, BeyondHorizon, Memory}

abbrev pub fault_number : DesignFault → ℕ
fault_number Horizon = 20
fault_number Clock = 21
fault_number NoClock = 22
fault_number (Header n) = 23
fault_number (Fields n) = 24
fault_number (Number n) = 25
fault_number (UnknownNet n) = 26
fault_number (UnknownKind n) = 27
fault_number (DelayRange n) = 28
fault_number (RepeatedRow n) = 29
fault_number (NotInput n) = 30
fault_number (Level n) = 31
fault_number (DelayOfInput n) = 32
fault_number TableTooLarge = 33
fault_number (PinName n) = 34
fault_number (NoPin n) = 35
fault_number (ClockRange n) = 36
fault_number (NotFlop n) = 37
fault_number (BeyondHorizon n) = 39
fault_number Memory = 70

-- the record at which a fault stands, 0 where it stands at none
abbrev pub fault_record : DesignFault → ℕ
fault_record Horizon = 0
fault_record Clock = 0
fault_record NoClock = 0
fault_record (Header n) = n
fault_record (Fields n) = n
fault_record (Number n) = n
fault_record (UnknownNet n) = n
fault_record (UnknownKind n) = n
fault_record (DelayRange n) = n
fault_record (RepeatedRow n) = n
fault_record (NotInput n) = n
fault_record (Level n) = n
fault_record (DelayOfInput n) = n
fault_record TableTooLarge = 0
fault_record (PinName n) = n
fault_record (NoPin n) = n
fault_record (ClockRange n) = n
fault_record (NotFlop n) = n
fault_record (BeyondHorizon n) = n
fault_record Memory = 0
