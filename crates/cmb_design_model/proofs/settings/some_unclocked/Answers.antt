use Rattle.std.proofs.Common.{◌≡◌, ◌∙◌, ap, arith, length, sym, refl}
use Rattle.cmb_design_model.specs.Settings.{any_below, is_unclocked}
use Rattle.std.proofs.Common.{◌<◌, get_or, false}
use Rattle.std.specs.Prelude.{◌&&◌, ◌||◌, not}
use Rattle.cmb_netlist.specs.Netlist.{driver_of}
use Rattle.cmb_design_model.specs.Nets.{is_flop}
use Rattle.cmb_design_model.proofs.SettingFacts.{any_below-next, length-named, named-at}
use Rattle.cmb_design_model.proofs.settings.some_unclocked.Goals as goal

pub loop-net-init : goal.loop-net-init
unfolding any_below
loop-net-init c = refl

pub is_lacking-requires-clause-named : goal.is_lacking-requires-clause-named
is_lacking-requires-clause-named c =
    omega (arith, ap length c.deref.ensures.value, ap length c.in_ok-named.ensures, length-named c.args.netlist.now c.args.rows.now, c.len-net-end.ensures.value)

pub loop-net-preserved : goal.loop-net-preserved
loop-net-preserved c =
    let netlist = c.args.netlist.now in
    let rows = c.args.rows.now in
    let net = c.loop-net.net in
    let below : net < length netlist.names = omega (arith, c.len-net-end.ensures.value) in
    let q : c.is_lacking.result ≡ is_unclocked netlist rows net =
    c.is_lacking.ensures ∙ ap (λ b. is_flop (driver_of netlist net) && not b) (ap (λ t. get_or t net false) (c.deref.ensures.value ∙ c.in_ok-named.ensures) ∙ named-at netlist rows net false below) in
    c.either-lacking.ensures ∙ ap (λ b. b || c.is_lacking.result) c.loop-net.invariant ∙ ap (λ b. any_below (is_unclocked netlist rows) net || b) q ∙ sym (any_below-next (is_unclocked netlist rows) net)
