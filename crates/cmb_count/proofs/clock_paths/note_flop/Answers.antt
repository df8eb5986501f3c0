use Rattle.std.proofs.Common.{◌≡◌, ◌∙◌, ap, sym}
use Rattle.std.specs.Prelude.{◌||◌}
use Rattle.cmb_netlist.specs.Netlist.{Netlist, driver_of}
use Rattle.cmb_design_model.specs.Nets.{is_flop}
use Rattle.cmb_design_model.specs.declared.rows.Clock.{Clock}
use Rattle.cmb_count.specs.Clocks.{same_clock}
use Rattle.cmb_count.specs.Inner.ClockSets.{has_clock}
use Rattle.cmb_count.proofs.ClockFacts.{met, noted, passed}
use Rattle.cmb_count.proofs.clock_paths.note_flop.Goals as goal

pub returns-then-not-has_kind-clause-before : goal.returns-then-not-has_kind-clause-before
returns-then-not-has_kind-clause-before c = λ clock.
    let told : c.has_kind.result ≡ is_flop (driver_of c.args.design.now.netlist c.args.net)
    = c.has_kind.ensures ∙ ap is_flop c.driver.ensures ∙ ap (λ (netlist : Netlist). is_flop (driver_of netlist c.args.net)) c.netlist.ensures in
    passed c.args.design.now c.args.net clock _ (sym told ∙ c.if-not-has_kind.true) (c.requires.before clock)

pub returns-clause-before : goal.returns-clause-before
returns-clause-before c = λ clock.
    let design = c.args.design.now in
    let told : c.has_kind.result ≡ is_flop (driver_of design.netlist c.args.net)
    = c.has_kind.ensures ∙ ap is_flop c.driver.ensures ∙ ap (λ (netlist : Netlist). is_flop (driver_of netlist c.args.net)) c.netlist.ensures in
    let own : Clock = c.clock-clock.result in
    noted (has_clock c.args.clocks.now clock) (has_clock c.insert.new.self clock) own clock (c.in_ok-new.ensures.updates.0 (clock.first, clock.period))
    ∙ ap (λ (k : Clock). has_clock c.args.clocks.now clock || same_clock clock k) c.clock-clock.ensures.value
    ∙ met design c.args.net clock _ (sym told ∙ c.if-not-has_kind.false) (c.requires.before clock)
