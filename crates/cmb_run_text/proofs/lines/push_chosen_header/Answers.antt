use Rattle.cmb_run_text.specs.Chosen.{names_of}
use Rattle.cmb_run_text.proofs.LineFacts.{appended, header-written}
use Rattle.cmb_run_text.proofs.lines.push_chosen_header.Goals as goal

pub returns : goal.returns
returns c =
    appended c.extend_from_slice-2.result _ c.push_chosen_vars.new.out.items c.extend_from_slice-2.new.self.items _ c.extend_from_slice-2.ensures.items (λ last.
    header-written (names_of c.args.netlist.now c.args.nets.now) c.args.out.now.items c.extend_from_slice.new.self.items c.push_chosen_vars.new.out.items c.extend_from_slice-2.new.self.items
    c.in_ok-extend_from_slice.ensures.items c.in_ok-push_chosen_vars.ensures last)
