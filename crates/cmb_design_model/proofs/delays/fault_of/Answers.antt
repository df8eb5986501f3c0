use Rattle.std.proofs.Common.{◌≡◌, ◌∙◌, ap, sym, Some, None}
use Rattle.cmb_netlist.specs.Netlist.{number_of}
use Rattle.cmb_design_model.specs.Nets.{is_input}
use Rattle.cmb_design_model.proofs.RowFacts.{fault_net, fault_pin-input, fault_pin-lacks, fault_pin-unknown}
use Rattle.cmb_design_model.proofs.delays.fault_of.Goals as goal

pub returns-in-Net : goal.returns-in-Net
returns-in-Net c =
    let h = rw c.in-Net.is at c.requires in
    rw c.in-Net.is (fault_net c.args.netlist.now c.args.number c.in-Net.field-0 h)

pub returns-in-None : goal.returns-in-None
returns-in-None c =
    let n : number_of c.args.netlist.now c.in-Pin.name ≡ None = sym (c.in-None.ensures.value ∙ ap (number_of c.args.netlist.now) c.as_bytes.ensures) in
    rw c.in-Pin.is (fault_pin-unknown c.args.netlist.now c.args.number c.in-Pin.name c.in-Pin.field-1 n)

pub returns-then-is_input_driver : goal.returns-then-is_input_driver
returns-then-is_input_driver c =
    let n : number_of c.args.netlist.now c.in-Pin.name ≡ Some c.in-Some.net = sym (c.in-Some.ensures.value ∙ ap (number_of c.args.netlist.now) c.as_bytes.ensures) in
    let i = sym (c.is_input_driver.ensures ∙ ap is_input c.driver.ensures) ∙ c.if-is_input_driver.true in
    rw c.in-Pin.is (fault_pin-input c.args.netlist.now c.args.number c.in-Pin.name c.in-Pin.field-1 c.in-Some.net n i)

pub returns-else-is_input_driver : goal.returns-else-is_input_driver
returns-else-is_input_driver c =
    let h = rw c.in-Pin.is at c.requires in
    let n : number_of c.args.netlist.now c.in-Pin.name ≡ Some c.in-Some.net = sym (c.in-Some.ensures.value ∙ ap (number_of c.args.netlist.now) c.as_bytes.ensures) in
    let i = sym (c.is_input_driver.ensures ∙ ap is_input c.driver.ensures) ∙ c.if-is_input_driver.false in
    rw c.in-Pin.is (fault_pin-lacks c.args.netlist.now c.args.number c.in-Pin.name c.in-Pin.field-1 c.in-Some.net n i h)
