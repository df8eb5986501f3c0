use Rattle.std.proofs.Common.{append_assoc}
use Rattle.cmb_expect.specs.Texts.{line}
use Rattle.cmb_expect.proofs.text.push_line.Goals as goal

pub returns : goal.returns
unfolding line
returns c =
    let all = rw (c.in_ok-push_level-2.ensures, c.in_ok-push_level.ensures, c.in_ok-push_field.ensures, c.in_ok-push.ensures.items, c.in_ok-push_tick.ensures) at c.in_ok-push-2.ensures.items in
    simp append_assoc at all
