use Rattle.std.proofs.Common.{◌∙◌, List, Bool, ap, length}
use Rattle.cmb_count.specs.Findings.{first_nets}
use Rattle.cmb_count.specs.Inner.Marks.{is_found}
use Rattle.cmb_count.proofs.FoundFacts.{found_by_marks}
use Rattle.cmb_count.proofs.findings.found_nets.Goals as goal

pub returns : goal.returns
returns c =
    let design = c.args.design.now in
    record {
      found = found_by_marks c.args.finding design c.args.most c.in_ok-marks.marks.items c.in_ok-nets.nets.items c.in_ok-marks.ensures
          (c.in_ok-nets.ensures.found ∙ ap (λ (l : List Bool). first_nets c.args.most (is_found c.args.finding design l) (length design.netlist.names)) c.as_slice.ensures.value);
    }
