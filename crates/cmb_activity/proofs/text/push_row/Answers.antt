use Rattle.std.proofs.Common.{append_assoc}
use Rattle.cmb_activity.specs.Texts.{row}
use Rattle.cmb_activity.proofs.text.push_row.Goals as goal

pub returns : goal.returns
unfolding row
returns c =
    let all = rw (c.in_ok-push_number-4.ensures, c.in_ok-push_number-3.ensures, c.in_ok-push_number-2.ensures, c.in_ok-push_number.ensures, c.in_ok-push_field.ensures) at c.in_ok-push.ensures.items in
    simp append_assoc at all
