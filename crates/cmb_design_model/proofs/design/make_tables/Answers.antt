use Rattle.std.proofs.Common.{◌≡◌, ◌∙◌, None, inl, inr, ⊎_elim}
use Rattle.std.proofs.lemmas.Result.{err_from_is_err_and}
use Rattle.cmb_design_model.specs.Checks.{first_fault}
use Rattle.cmb_design_model.specs.Ranges.{AreRows, IsClockRow, IsDelayRow}
use Rattle.cmb_design_model.specs.Design.{Design, design_of}
use Rattle.cmb_design_model.proofs.LawfulFacts.{lawful}
use Rattle.cmb_design_model.proofs.WholeFacts.{in_clocks, in_delays, in_initial, in_settings, in_stimuli, of_clocks, of_delays, of_initial, of_settings, of_stimuli}
use Rattle.cmb_design_model.proofs.design.make_tables.Goals as goal

pub returns-in_err-check_settings-clause-err : goal.returns-in_err-check_settings-clause-err
returns-in_err-check_settings-clause-err c =
    let d : Design = design_of c.args.netlist.now c.args.settings c.args.delays.now c.args.stimuli.now c.args.clocks.now c.args.initial.now in
    let p = err_from_is_err_and c.from_residual.result c.from_residual.ensures.1 in
    let fault = rw (c.as_slice-clock_rows.ensures.value, c.common_clock.ensures) at c.in_err-check_settings.ensures.err in
    rw (p.1, p.2) (⊎_elim (λ m. inl m) (λ x. inr (in_settings d c.in_err-check_settings.field-0.0 x)) fault)

pub returns-in_err-delays-clause-err : goal.returns-in_err-delays-clause-err
returns-in_err-delays-clause-err c =
    let d : Design = design_of c.args.netlist.now c.args.settings c.args.delays.now c.args.stimuli.now c.args.clocks.now c.args.initial.now in
    let settings : first_fault (of_settings d) ≡ None = rw (c.as_slice-clock_rows.ensures.value, c.common_clock.ensures) at c.in_ok-check_settings.ensures.ok in
    let p = err_from_is_err_and c.from_residual-in_err-delays.result c.from_residual-in_err-delays.ensures.1 in
    let fault = rw c.as_slice-delay_rows.ensures.value at c.in_err-delays.ensures.err in
    rw (p.1, p.2) (⊎_elim (λ m. inl m) (λ x. inr (in_delays d c.in_err-delays.field-0.0 settings x)) fault)

pub returns-in_err-changes-clause-err : goal.returns-in_err-changes-clause-err
returns-in_err-changes-clause-err c =
    let d : Design = design_of c.args.netlist.now c.args.settings c.args.delays.now c.args.stimuli.now c.args.clocks.now c.args.initial.now in
    let settings : first_fault (of_settings d) ≡ None = rw (c.as_slice-clock_rows.ensures.value, c.common_clock.ensures) at c.in_ok-check_settings.ensures.ok in
    let delays : first_fault (of_delays d) ≡ None = rw c.as_slice-delay_rows.ensures.value at c.in_ok-delays.ensures.ok.0 in
    let p = err_from_is_err_and c.from_residual-in_err-changes.result c.from_residual-in_err-changes.ensures.1 in
    let fault = rw c.as_slice.ensures.value at c.in_err-changes.ensures.err in
    rw (p.1, p.2) (⊎_elim (λ m. inl m) (λ x. inr (in_stimuli d c.in_err-changes.field-0.0 settings delays x)) fault)

pub returns-in_err-own_clocks-clause-err : goal.returns-in_err-own_clocks-clause-err
returns-in_err-own_clocks-clause-err c =
    let d : Design = design_of c.args.netlist.now c.args.settings c.args.delays.now c.args.stimuli.now c.args.clocks.now c.args.initial.now in
    let settings : first_fault (of_settings d) ≡ None = rw (c.as_slice-clock_rows.ensures.value, c.common_clock.ensures) at c.in_ok-check_settings.ensures.ok in
    let delays : first_fault (of_delays d) ≡ None = rw c.as_slice-delay_rows.ensures.value at c.in_ok-delays.ensures.ok.0 in
    let stimuli : first_fault (of_stimuli d) ≡ None = rw c.as_slice.ensures.value at c.in_ok-changes.ensures.ok.0 in
    let p = err_from_is_err_and c.from_residual-in_err-own_clocks.result c.from_residual-in_err-own_clocks.ensures.1 in
    let fault = rw c.as_slice-clock_rows.ensures.value at c.in_err-own_clocks.ensures.err in
    rw (p.1, p.2) (⊎_elim (λ m. inl m) (λ x. inr (in_clocks d c.in_err-own_clocks.field-0.0 settings delays stimuli x)) fault)

pub returns-in_err-own_levels-clause-err : goal.returns-in_err-own_levels-clause-err
returns-in_err-own_levels-clause-err c =
    let d : Design = design_of c.args.netlist.now c.args.settings c.args.delays.now c.args.stimuli.now c.args.clocks.now c.args.initial.now in
    let settings : first_fault (of_settings d) ≡ None = rw (c.as_slice-clock_rows.ensures.value, c.common_clock.ensures) at c.in_ok-check_settings.ensures.ok in
    let delays : first_fault (of_delays d) ≡ None = rw c.as_slice-delay_rows.ensures.value at c.in_ok-delays.ensures.ok.0 in
    let stimuli : first_fault (of_stimuli d) ≡ None = rw c.as_slice.ensures.value at c.in_ok-changes.ensures.ok.0 in
    let clocks : first_fault (of_clocks d) ≡ None = rw c.as_slice-clock_rows.ensures.value at c.in_ok-own_clocks.ensures.ok.0 in
    let p = err_from_is_err_and c.from_residual-in_err-own_levels.result c.from_residual-in_err-own_levels.ensures.1 in
    let fault = rw c.as_slice-2.ensures.value at c.in_err-own_levels.ensures.err in
    rw (p.1, p.2) (⊎_elim (λ m. inl m) (λ x. inr (in_initial d settings delays stimuli clocks ∙ x)) fault)

pub returns-clause-ok : goal.returns-clause-ok
returns-clause-ok c =
    let d : Design = design_of c.args.netlist.now c.args.settings c.args.delays.now c.args.stimuli.now c.args.clocks.now c.args.initial.now in
    let settings : first_fault (of_settings d) ≡ None = rw (c.as_slice-clock_rows.ensures.value, c.common_clock.ensures) at c.in_ok-check_settings.ensures.ok in
    let delays : first_fault (of_delays d) ≡ None = rw c.as_slice-delay_rows.ensures.value at c.in_ok-delays.ensures.ok.0 in
    let stimuli : first_fault (of_stimuli d) ≡ None = rw c.as_slice.ensures.value at c.in_ok-changes.ensures.ok.0 in
    let clocks : first_fault (of_clocks d) ≡ None = rw c.as_slice-clock_rows.ensures.value at c.in_ok-own_clocks.ensures.ok.0 in
    let initial : first_fault (of_initial d) ≡ None = rw c.as_slice-2.ensures.value at c.in_ok-own_levels.ensures.ok.0 in
    let passes = in_initial d settings delays stimuli clocks ∙ initial in
    let delay_rows : AreRows IsDelayRow d.delays = c.as_slice-delay_rows.ensures.lawful in
    let clock_rows : AreRows IsClockRow d.clocks = c.as_slice-clock_rows.ensures.lawful in (
      passes,
      record {
        starts = c.in_ok-layout.ensures.ok.0;
        room = c.in_ok-layout.ensures.ok.2;
        delays = rw c.as_slice-delay_rows.ensures.value at c.in_ok-delays.ensures.ok.1;
        changes = rw c.as_slice.ensures.value at c.in_ok-changes.ensures.ok.1;
        own_clocks = rw c.as_slice-clock_rows.ensures.value at c.in_ok-own_clocks.ensures.ok.1;
        own_levels = rw c.as_slice-2.ensures.value at c.in_ok-own_levels.ensures.ok.1;
        lawful = lawful d c.in_ok-layout.ensures.lawful delay_rows clock_rows passes;
      },
    )
