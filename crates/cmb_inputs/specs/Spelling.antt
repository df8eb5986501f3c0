-- The design that the texts of a simulation's inputs spell, or why there is none.
use Rattle.std.specs.Prelude.{◌≡◌, List, ◌++◌, None, Some, ⊤}
use Rattle.cmb_bench.specs.FirstFault.{IsFirstFault}
use Rattle.cmb_bench.specs.Meaning.{Reads}
use Rattle.cmb_netlist.specs.Netlist.{Netlist}
use Rattle.cmb_design_model.specs.Checks.{Check, first_fault}
use Rattle.cmb_design_model.specs.Design.{Design, design_of}
use Rattle.cmb_design_model.specs.Settings.{design_checks}
use Rattle.cmb_design_model.specs.declared.settings.Settings.{Settings}
use Rattle.cmb_faults.specs.declared.fault.Fault.{Fault}
use Rattle.cmb_faults.specs.declared.fault.Fault.TheVariants as fault
use Rattle.cmb_inputs.specs.Inputs.{Texts}
use Rattle.cmb_design_tables.specs.Readers.{table_checks, table_rows, delay_header, delay_record_checks, delay_row_of, stimulus_header, stimulus_record_checks, stimulus_row_of, clock_header, clock_record_checks, clock_row_of, initial_header, initial_record_checks, initial_row_of}
use Rattle.cmb_design_tables.specs.Records.{table_records}

-- the design of a netlist with the rows of the four tables
abbrev pub design_in : Texts → Settings → Netlist → Design
design_in texts settings netlist =
    design_of netlist settings
    (table_rows delay_row_of (table_records texts.delays))
    (table_rows stimulus_row_of (table_records texts.stimuli))
    (table_rows clock_row_of (table_records texts.clocks))
    (table_rows initial_row_of (table_records texts.initial))

-- all checks of texts with a netlist, in their order: each table, then the design
abbrev pub text_checks : Texts → Settings → Netlist → List Check
text_checks texts settings netlist =
    table_checks delay_header delay_record_checks (table_records texts.delays)
    ++ (table_checks stimulus_header stimulus_record_checks (table_records texts.stimuli)
    ++ (table_checks clock_header clock_record_checks (table_records texts.clocks)
    ++ (table_checks initial_header initial_record_checks (table_records texts.initial)
    ++ design_checks (design_in texts settings netlist))))

-- the texts spell this design, whether a mode can run it or not
pub record SpellAny (texts : Texts) (settings : Settings) (design : Design) : Type 0 where
  pub netlist : Netlist
  pub read : Reads texts.bench netlist
  pub checked : first_fault (text_checks texts settings netlist) ≡ None
  pub is : design ≡ design_in texts settings netlist

-- the texts have this fault, whatever the mode
abbrev pub HaveTextFault : Texts → Settings → Fault → Type 0
HaveTextFault texts settings (fault.Bench f) = IsFirstFault texts.bench f
HaveTextFault texts settings (fault.Design f) = (netlist : Netlist) × Reads texts.bench netlist × (first_fault (text_checks texts settings netlist) ≡ Some f)
HaveTextFault texts settings fault.Memory = ⊤
HaveTextFault texts settings _ = ⊥
