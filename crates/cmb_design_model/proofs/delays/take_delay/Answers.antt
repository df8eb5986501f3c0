use Rattle.std.proofs.Common.{◌∙◌, sym, inr, arith, true, false, refl}
use Rattle.cmb_design_model.specs.Inner.Tables.{row_place, table_size}
use Rattle.cmb_design_model.specs.declared.rows.DelayRow.{DelayRow}
use Rattle.cmb_design_model.proofs.PlaceFacts.{slot_put, slot_within}
use Rattle.cmb_design_model.proofs.RowFacts.{place_below}
use Rattle.cmb_design_model.proofs.DelayFacts.{delay_answer, delay_unplaced, placed_one}
use Rattle.cmb_design_model.proofs.delays.take_delay.Goals as goal

pub returns-in_default-clause-err : goal.returns-in_default-clause-err
returns-in_default-clause-err c =
    inr (delay_unplaced c.args.netlist.now c.args.rows.now c.args.i c.index-rows-i.result c.fault_of.result c.requires.within c.index-rows-i.is (sym c.place_of.ensures ∙ c.in_default.is) c.requires.placed c.fault_of.ensures)

pub index-requires : goal.index-requires
index-requires c = omega (arith, slot_within _ _ _ _ _ _ (place_below _ c.index-rows-i.result.what _ (sym c.in-Some.ensures)) c.requires.so_far)

pub index_mut-requires : goal.index_mut-requires
index_mut-requires c = omega (arith, slot_within _ _ _ _ _ _ (place_below _ c.index-rows-i.result.what _ (sym c.in-Some.ensures)) c.requires.so_far)

pub returns-then-is_some-clause-err : goal.returns-then-is_some-clause-err
returns-then-is_some-clause-err c =
    inr (delay_answer _ _ _ c.index-rows-i.result _ _ c.index.result.now true _ c.requires.within c.index-rows-i.is (sym c.in-Some.ensures) c.requires.so_far c.index.ensures (sym c.is_some.ensures ∙ c.if-is_some.true) refl)

pub returns-then-names_input-clause-err : goal.returns-then-names_input-clause-err
returns-then-names_input-clause-err c =
    inr (delay_answer _ _ _ c.index-rows-i.result _ _ c.index.result.now false true c.requires.within c.index-rows-i.is (sym c.in-Some.ensures) c.requires.so_far c.index.ensures (sym c.is_some.ensures ∙ c.if-is_some.false) (sym c.names_input.ensures ∙ c.if-names_input.true))

pub returns-clause-ok : goal.returns-clause-ok
returns-clause-ok c =
    let netlist = c.args.netlist.now in
    let rows = c.args.rows.now in
    let r : DelayRow = c.index-rows-i.result in
    let p = sym c.in-Some.ensures in
    let free = sym c.is_some.ensures ∙ c.if-is_some.false in (
      delay_answer _ _ _ r _ _ c.index.result.now false false c.requires.within c.index-rows-i.is p c.requires.so_far c.index.ensures free (sym c.names_input.ensures ∙ c.if-names_input.false),
      slot_put (row_place netlist) (λ row. row.delay) (table_size netlist) rows c.args.i r _ _ c.index.result.now c.requires.within c.index-rows-i.is p (place_below netlist r.what _ p) c.requires.so_far c.index.ensures free,
      placed_one netlist rows c.args.i r _ c.requires.within c.index-rows-i.is c.requires.placed p,
    )
