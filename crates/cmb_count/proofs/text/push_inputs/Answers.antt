use Rattle.std.proofs.Common.{append_assoc}
use Rattle.cmb_count.proofs.text.push_inputs.Goals as goal

pub returns : goal.returns
returns c =
    let all = rw (c.in_ok-push_rows.ensures, c.as_slice.ensures.value) at c.push_names.ensures in
    rw append_assoc at all
