use Rattle.std.proofs.Common.{◌≡◌, ◌∙◌, ap, sym, rules}
use Rattle.std.specs.Prelude.{replicate, false}
use Rattle.cmb_design_model.proofs.SettingFacts.{named_empty, named_push, named_skip}
use Rattle.std.proofs.Common.{Some, None, set, take, true}
use Rattle.cmb_netlist.specs.Netlist.{number_of}
use Rattle.cmb_design_model.specs.declared.rows.ClockRow.{ClockRow}
use Rattle.cmb_design_model.proofs.CheckFacts.{take_one}
use Rattle.cmb_design_model.proofs.settings.nets_named.Goals.{in-Some, in_default}
use Rattle.cmb_design_model.proofs.settings.nets_named.Goals as goal

pub loop-row-init : goal.loop-row-init
loop-row-init c =
    let same = c.in_ok-table.ensures.items_if_clones_equal in
    let items = same (search rules) in
    named_empty c.args.netlist.now c.in_ok-table.table.items (items ∙ ap (λ n. replicate n false) c.len.ensures.value)

pub loop-row-preserved : goal.loop-row-preserved
loop-row-preserved c =
    let netlist = c.args.netlist.now in
    let rows = c.args.rows.now in
    let i = c.loop-row.row-index in
    let r : ClockRow = c.row-item.result in
    let more = take_one rows i r c.loop-row-test.true c.row-item.is in
    elim c.match-number.branch [
      | in-Some w ↦
          let n : number_of netlist r.net ≡ Some w.in-Some.net = sym (w.in-Some.ensures.value ∙ ap (number_of netlist) c.as_bytes.ensures) in
          rw (w.table-is, more) (ap (λ t. set t w.in-Some.net true) c.loop-row.invariant ∙ named_push netlist (take i rows) r w.in-Some.net n)
      | in_default w ↦
          let n : number_of netlist r.net ≡ None = sym (w.in_default.ensures.value ∙ ap (number_of netlist) c.as_bytes.ensures) in
          rw (w.table-is, more) (c.loop-row.invariant ∙ named_skip netlist (take i rows) r n)
    ]
