use Rattle.std.proofs.Common.{◌≡◌, ◌∙◌, List, [], ◌∷◌, ◌++◌, arith, length, map, refl, subst, sym, take, true, ap}
use Rattle.std.specs.Prelude.{All, is_ok, not}
use Rattle.std.proofs.lemmas.List.{length-map, map_more, take_all}
use Rattle.std.proofs.lemmas.List.Elements.{All-push}
use Rattle.std.proofs.lemmas.Result.{err_from_is_err_and}
use Rattle.cmb_design_model.specs.Checks.{checks_after, first_fault}
use Rattle.cmb_design_model.specs.Expected.{IsWithin, expected_of}
use Rattle.cmb_design_model.specs.Rows.{expected_row_checks}
use Rattle.cmb_design_model.specs.declared.expected.Expected.{Expected}
use Rattle.cmb_design_model.proofs.CheckFacts.{element_at, pass_at, stops_at}
use Rattle.cmb_design_model.proofs.StimulusFacts.{stimuli_none}
use Rattle.cmb_design_model.proofs.expected.expected_rows.Goals as goal

pub loop-i-init : goal.loop-i-init
unfolding checks_after first_fault
loop-i-init c = record {
  told = stimuli_none c.args.design.now.netlist c.in-Ok.table.items (c.in-Ok.ensures.0 ∙ c.len.ensures.value ∙ ap (λ n. length n.names) c.netlist.ensures) c.in-Ok.ensures.1;
  passed = refl;
  rows = c.in-Ok-with_capacity.ensures.items;
  within = subst (All (IsWithin c.args.design.now)) (sym c.in-Ok-with_capacity.ensures.items) (λ k d below. absurd (omega (arith, below)));
}

pub returns-in_err-expected-clause-err : goal.returns-in_err-expected-clause-err
returns-in_err-expected-clause-err c =
    let p = err_from_is_err_and c.from_residual.result c.from_residual.ensures.1 in
    let same = c.as_slice-rows.ensures.value in
    rw (p.1, p.2) (rw same at (stops_at (expected_row_checks c.args.design.now.netlist c.args.design.now.horizon) c.as_slice-rows.result.now c.loop-i.i c.in_err-expected.field-0.0 (omega arith) c.loop-i.invariant.passed c.in_err-expected.ensures.err))

pub loop-i-preserved : goal.loop-i-preserved
loop-i-preserved c =
    let rows = c.as_slice-rows.result.now in
    let netlist = c.args.design.now.netlist in
    let row = element_at rows c.loop-i.i (omega arith) in
    let went : is_ok c.push.result ≡ true = c.is_err.ensures.negation ∙ ap not c.if-is_err.false in
    let pushed : c.push.new.self.items ≡ c.loop-i.all.items ++ c.in_ok-expected.expected ∷ [] = rw went at c.push.ensures.items in
    record {
      told = c.in_ok-expected.ensures.table;
      passed = pass_at (expected_row_checks netlist c.args.design.now.horizon) rows c.loop-i.i (omega arith) c.loop-i.invariant.passed c.in_ok-expected.ensures.checks;
      rows = pushed ∙ ap (λ (all : List Expected). all ++ c.in_ok-expected.expected ∷ []) c.loop-i.invariant.rows
          ∙ ap (λ (e : Expected). map (expected_of netlist) (take c.loop-i.i rows) ++ e ∷ []) (c.in_ok-expected.ensures.row row.0)
          ∙ sym (map_more (expected_of netlist) rows c.loop-i.i row.0 (omega arith));
      within = subst (All (IsWithin c.args.design.now)) (sym pushed) (All-push (IsWithin c.args.design.now) c.loop-i.all.items c.in_ok-expected.expected c.loop-i.invariant.within c.in_ok-expected.ensures.within);
    }

pub returns-clause-checks : goal.returns-clause-checks
returns-clause-checks c =
    let whole : take c.loop-i.i c.as_slice-rows.result.now ≡ c.args.rows.now = take_all c.loop-i.i c.as_slice-rows.result.now (omega arith) ∙ c.as_slice-rows.ensures.value in
    rw whole at c.loop-i.invariant.passed

pub returns-clause-rows : goal.returns-clause-rows
returns-clause-rows c =
    let whole : take c.loop-i.i c.as_slice-rows.result.now ≡ c.args.rows.now = take_all c.loop-i.i c.as_slice-rows.result.now (omega arith) ∙ c.as_slice-rows.ensures.value in
    c.loop-i.invariant.rows ∙ ap (map (expected_of c.args.design.now.netlist)) whole

pub returns-clause-within : goal.returns-clause-within
returns-clause-within c = c.loop-i.invariant.within

pub returns-clause-few : goal.returns-clause-few
returns-clause-few c =
    let rows = c.as_slice-rows.result.now in
    let whole : take c.loop-i.i rows ≡ rows = take_all c.loop-i.i rows (omega arith) in
    let count : length c.loop-i.all.items ≡ length rows = ap length (c.loop-i.invariant.rows ∙ ap (map (expected_of c.args.design.now.netlist)) whole) ∙ length-map rows (expected_of c.args.design.now.netlist) in
    omega (arith, count, ap length c.as_slice-rows.ensures.value, c.as_slice-rows.ensures.lawful.few)
