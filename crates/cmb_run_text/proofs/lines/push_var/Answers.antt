use Rattle.std.specs.Prelude.{codes, ◌++◌}
use Rattle.std.proofs.Common.{◌∙◌, ap, append_assoc, sym}
use Rattle.cmb_run_text.specs.Vcd.{code, reference, var_line}
use Rattle.cmb_run_text.proofs.LineFacts.{appended, joined}
use Rattle.cmb_run_text.proofs.lines.push_var.Goals as goal

pub returns : goal.returns
unfolding var_line
returns c =
    let o = c.args.out.now.items in
    let a = c.extend_from_slice.new.self.items in
    let b = c.push_code.new.out.items in
    let d = c.extend_from_slice-2.new.self.items in
    let e = c.push_reference.new.out.items in
    let f = c.extend_from_slice-3.new.self.items in
    let head = codes "$var wire 1 " in
    let id = code c.args.net in
    let ref = reference c.args.name.now in
    appended c.extend_from_slice-3.result _ e f (codes " $end\n") c.extend_from_slice-3.ensures.items (λ last.
    joined o e f (head ++ id ++ codes " " ++ ref) (codes " $end\n") (
    joined o d e (head ++ id ++ codes " ") ref (
    joined o b d (head ++ id) (codes " ") (joined o a b head id c.in_ok-extend_from_slice.ensures.items c.in_ok-push_code.ensures) c.in_ok-extend_from_slice-2.ensures.items
    ) c.in_ok-push_reference.ensures
    ) last ∙ ap (λ t. o ++ t) (sym (append_assoc (head ++ id ++ codes " " ++ ref) (codes " $end") (codes "\n"))))
