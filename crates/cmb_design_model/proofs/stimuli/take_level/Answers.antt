use Rattle.std.proofs.Common.{arith, ◌≡◌, ◌∙◌, sym, ap, inr, None, true, false, get_or}
use Rattle.std.specs.Prelude.{is_some}
use Rattle.std.proofs.lemmas.List.{get_or_default}
use Rattle.cmb_netlist.specs.Netlist.{number_of}
use Rattle.cmb_design_model.specs.declared.rows.StimulusRow.{StimulusRow}
use Rattle.cmb_design_model.proofs.StimulusFacts.{stimuli_take, told_answer, told_in, told_unknown}
use Rattle.cmb_design_model.proofs.stimuli.take_level.Goals as goal

pub returns-in_default-clause-err : goal.returns-in_default-clause-err
returns-in_default-clause-err c =
    let netlist = c.args.netlist.now in
    let r : StimulusRow = c.index-rows-i.result in
    let n : number_of netlist r.net ≡ None = sym (c.in_default.ensures.value ∙ ap (number_of netlist) c.as_bytes.ensures) in
    inr (told_unknown netlist c.args.rows.now c.args.i r c.requires.within c.index-rows-i.is n)

pub returns-then-is_some-clause-err : goal.returns-then-is_some-clause-err
returns-then-is_some-clause-err c =
    let n = sym (c.in-Some.ensures.value ∙ ap (number_of c.args.netlist.now) c.as_bytes.ensures) in
    let held = ap is_some (sym c.in_ok-old.ensures.old) ∙ sym c.is_some.ensures ∙ c.if-is_some.true in
    inr (told_answer _ _ _ c.index-rows-i.result _ _ c.index_mut.result.now true c.requires.within c.index-rows-i.is n c.in-Some.ensures.below.0 c.requires.so_far c.index_mut.ensures.value held)

pub returns-clause-checks : goal.returns-clause-checks
returns-clause-checks c =
    let n = sym (c.in-Some.ensures.value ∙ ap (number_of c.args.netlist.now) c.as_bytes.ensures) in
    let free = ap is_some (sym c.in_ok-old.ensures.old) ∙ sym c.is_some.ensures ∙ c.if-is_some.false in
    told_answer _ _ _ c.index-rows-i.result _ _ c.index_mut.result.now false c.requires.within c.index-rows-i.is n c.in-Some.ensures.below.0 c.requires.so_far c.index_mut.ensures.value free

pub returns-clause-net : goal.returns-clause-net
returns-clause-net c d =
    let n = sym (c.in-Some.ensures.value ∙ ap (number_of c.args.netlist.now) c.as_bytes.ensures) in
    let row : get_or c.args.rows.now c.args.i d ≡ c.index-rows-i.result = get_or_default _ _ d c.index-rows-i.result c.requires.within ∙ sym c.index-rows-i.is in
    ap (λ (r : StimulusRow). number_of c.args.netlist.now r.net) row ∙ n

pub returns-clause-table : goal.returns-clause-table
returns-clause-table c =
    let n = sym (c.in-Some.ensures.value ∙ ap (number_of c.args.netlist.now) c.as_bytes.ensures) in
    let free = ap is_some (sym c.in_ok-old.ensures.old) ∙ sym c.is_some.ensures ∙ c.if-is_some.false in
    stimuli_take _ _ _ c.index-rows-i.result _ _ c.index_mut.result.now c.add_level.new.told c.requires.within c.index-rows-i.is n c.in-Some.ensures.below.0 c.requires.so_far c.index_mut.ensures.value free c.in_ok-old.ensures.told c.in_ok-old.ensures.new

pub add_level-requires : goal.add_level-requires
add_level-requires c = told_in c.args.table.now.items c.in-Some.net c.index_mut.result.now c.requires.so_far.told (omega (arith, c.requires.so_far.nets, c.in-Some.ensures.below.0)) c.index_mut.ensures.value
