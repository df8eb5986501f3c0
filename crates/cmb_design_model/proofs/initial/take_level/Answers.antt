use Rattle.std.proofs.Common.{◌≡◌, ◌∙◌, sym, ap, inr, arith, None, length, true, false, refl}
use Rattle.cmb_netlist.specs.Netlist.{number_of}
use Rattle.cmb_design_model.specs.Nets.{is_flop}
use Rattle.cmb_design_model.specs.declared.rows.InitialRow.{InitialRow}
use Rattle.cmb_design_model.specs.Inner.Tables.{initial_place}
use Rattle.cmb_design_model.specs.Timing.{level_of_row}
use Rattle.cmb_design_model.proofs.PlaceFacts.{slot_put, slot_within}
use Rattle.cmb_design_model.proofs.InitialFacts.{initial_answer, initial_unknown}
use Rattle.cmb_design_model.proofs.initial.take_level.Goals as goal

pub returns-in_default-clause-err : goal.returns-in_default-clause-err
returns-in_default-clause-err c =
    let netlist = c.args.netlist.now in
    let r : InitialRow = c.index-rows-i.result in
    let n : number_of netlist r.net ≡ None = sym (c.in_default.ensures.value ∙ ap (number_of netlist) c.as_bytes.ensures) in
    inr (initial_unknown netlist c.args.rows.now c.args.i r c.requires.within c.index-rows-i.is n)

pub index-requires : goal.index-requires
index-requires c = omega (arith, slot_within _ _ _ _ _ _ c.in-Some.ensures.below.0 c.requires.so_far)

pub index_mut-requires : goal.index_mut-requires
index_mut-requires c = omega (arith, slot_within _ _ _ _ _ _ c.in-Some.ensures.below.0 c.requires.so_far)

pub returns-then-is_some-clause-err : goal.returns-then-is_some-clause-err
returns-then-is_some-clause-err c =
    let n = sym (c.in-Some.ensures.value ∙ ap (number_of c.args.netlist.now) c.as_bytes.ensures) in
    inr (initial_answer _ _ _ c.index-rows-i.result _ _ c.index.result.now true _ c.requires.within c.index-rows-i.is n c.in-Some.ensures.below.0 c.requires.so_far c.index.ensures (sym c.is_some.ensures ∙ c.if-is_some.true) refl)

pub returns-then-not-is_flop_driver-clause-err : goal.returns-then-not-is_flop_driver-clause-err
returns-then-not-is_flop_driver-clause-err c =
    let n = sym (c.in-Some.ensures.value ∙ ap (number_of c.args.netlist.now) c.as_bytes.ensures) in
    let driven = sym (c.is_flop_driver.ensures ∙ ap is_flop c.driver.ensures) ∙ c.if-not-is_flop_driver.true in
    inr (initial_answer _ _ _ c.index-rows-i.result _ _ c.index.result.now false false c.requires.within c.index-rows-i.is n c.in-Some.ensures.below.0 c.requires.so_far c.index.ensures (sym c.is_some.ensures ∙ c.if-is_some.false) driven)

pub returns-clause-ok : goal.returns-clause-ok
returns-clause-ok c =
    let netlist = c.args.netlist.now in
    let r : InitialRow = c.index-rows-i.result in
    let n = sym (c.in-Some.ensures.value ∙ ap (number_of netlist) c.as_bytes.ensures) in
    let free = sym c.is_some.ensures ∙ c.if-is_some.false in
    let driven = sym (c.is_flop_driver.ensures ∙ ap is_flop c.driver.ensures) ∙ c.if-not-is_flop_driver.false in (
      initial_answer _ _ _ r _ _ c.index.result.now false true c.requires.within c.index-rows-i.is n c.in-Some.ensures.below.0 c.requires.so_far c.index.ensures free driven,
      slot_put (initial_place netlist) level_of_row (length netlist.names) c.args.rows.now c.args.i r _ _ c.index.result.now c.requires.within c.index-rows-i.is n c.in-Some.ensures.below.0 c.requires.so_far c.index.ensures free,
    )
