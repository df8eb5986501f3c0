use Rattle.std.proofs.Common.{◌≡◌, ◌∙◌, ◌-◌, [], ap, length}
use Rattle.cmb_run_text.specs.Inner.ValueChanges.{value_changes_in}
use Rattle.cmb_run_text.specs.Inner.Ticks.{ArePlaced, span_lines}
use Rattle.cmb_run_text.proofs.text.push_counted.Goals as goal

pub returns : goal.returns
unfolding span_lines
returns c =
    let all = value_changes_in c.args.parts.now in
    let placed : ArePlaced c.args.from all [] c.deref.result.now c.deref-2.result.now = rw (c.deref.ensures.value, c.deref-2.ensures.value) c.in_ok-sorted.ensures.placed in
    let count : length c.deref.result.now ≡ c.args.to - c.args.from = ap length c.deref.ensures.value ∙ c.in_ok-sorted.ensures.len in
    rw (← c.reserve.ensures.items) (rw count at (c.push_by_ticks.ensures all placed))
