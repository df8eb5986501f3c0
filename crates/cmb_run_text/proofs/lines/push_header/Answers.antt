use Rattle.cmb_run_text.proofs.LineFacts.{appended, header-written}
use Rattle.cmb_run_text.proofs.lines.push_header.Goals as goal

pub returns : goal.returns
returns c =
    appended c.extend_from_slice-2.result _ c.push_vars.new.out.items c.extend_from_slice-2.new.self.items _ c.extend_from_slice-2.ensures.items (λ last.
    header-written c.args.netlist.now.names c.args.out.now.items c.extend_from_slice.new.self.items c.push_vars.new.out.items c.extend_from_slice-2.new.self.items
    c.in_ok-extend_from_slice.ensures.items c.in_ok-push_vars.ensures last)
