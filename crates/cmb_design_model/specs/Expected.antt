-- What is expected of a design's run.
use Rattle.std.specs.Prelude.{◌<◌, unwrap_or}
use Rattle.cmb_netlist.specs.Netlist.{Netlist, number_of}
use Rattle.cmb_design_model.specs.Design.{Design}
use Rattle.cmb_design_model.specs.Exact.{nets_of}
use Rattle.cmb_design_model.specs.declared.expected.Expected.{Expected}
use Rattle.cmb_design_model.specs.declared.rows.StimulusRow.{StimulusRow}

-- what a row of a table expects, which has the form of a stimulus
abbrev pub expected_of : Netlist → StimulusRow → Expected
expected_of netlist row = record { tick = row.tick; net = unwrap_or (number_of netlist row.net) 0; level = row.level }

-- it is of a net of the design, at a tick below its horizon
abbrev pub IsWithin : Design → Expected → Type 0
IsWithin design row = (row.net < nets_of design) × (row.tick < design.horizon)
