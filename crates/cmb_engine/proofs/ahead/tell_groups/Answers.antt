use Rattle.std.proofs.Common.{ℕ, ◌-◌, List, [], take, get_or, sym, subst}
use Rattle.std.proofs.lemmas.List.{take_all}
use Rattle.cmb_engine.specs.Inner.Circuits.{IsGroup}
use Rattle.cmb_engine.specs.Inner.Exports.{slots_of, AddsSlots}
use Rattle.cmb_engine.specs.declared.group.Group.{Group}
use Rattle.cmb_engine.proofs.AheadFacts.{adds-both, slots_of-more}
use Rattle.cmb_engine.proofs.ahead.tell_groups.Goals as goal

pub loop-group-preserved : goal.loop-group-preserved
loop-group-preserved c = λ cells are trace meets shows.
    let groups : List Group = c.args.groups.now in
    let k : ℕ = c.loop-group.group-index in
    let next : AddsSlots trace (get_or groups k c.group-item.result).flops.items (c.args.to - c.args.ticks) c.args.to c.loop-group.told.items c.tell_group.new.told.items =
    subst (λ (group : Group). AddsSlots trace group.flops.items (c.args.to - c.args.ticks) c.args.to c.loop-group.told.items c.tell_group.new.told.items) c.group-item.is
    (c.in_ok-tell_group.ensures cells (subst (IsGroup cells) (sym c.group-item.is) (are k c.group-item.result c.loop-group-test.true)) trace meets shows) in
    subst (λ (slots : List ℕ). AddsSlots trace slots (c.args.to - c.args.ticks) c.args.to [] c.tell_group.new.told.items) (sym (slots_of-more groups k c.group-item.result c.loop-group-test.true))
    (adds-both trace (c.args.to - c.args.ticks) c.args.to (slots_of (take k groups)) (get_or groups k c.group-item.result).flops.items [] c.loop-group.told.items c.tell_group.new.told.items
    (c.loop-group.invariant cells are trace meets shows) next)

pub returns : goal.returns
returns c = λ cells are trace meets shows.
    subst (λ (groups : List Group). AddsSlots trace (slots_of groups) (c.args.to - c.args.ticks) c.args.to [] c.loop-group.told.items)
    (take_all c.loop-group.group-index c.args.groups.now c.loop-group-test.false) (c.loop-group.invariant cells are trace meets shows)
