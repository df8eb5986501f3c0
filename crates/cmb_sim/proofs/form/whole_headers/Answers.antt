use Rattle.std.proofs.Common.{◌≡◌, length, ap, ◌∙◌, arith, subst}
use Rattle.std.specs.List.{range_with_len}
use Rattle.std.specs.Prelude.{IfOk}
use Rattle.std.proofs.lemmas.List.FromFn.{length-range_with_len}
use Rattle.cmb_netlist.specs.Netlist.{Netlist}
use Rattle.cmb_sim.proofs.Forms.{whole-headers}
use Rattle.cmb_sim.specs.Inner.Plans.{AreHeaders}
use Rattle.cmb_sim.proofs.form.whole_headers.Goals as goal

pub headers_of-requires-clause-few : goal.headers_of-requires-clause-few
headers_of-requires-clause-few c =
    let counted : length c.deref.result.now ≡ c.len.result = ap length (c.deref.ensures.value ∙ c.in_ok-nets.ensures.nets) ∙ length-range_with_len 0 c.len.result in
    omega (arith, counted, c.len.ensures.value, c.len.ensures.few)

pub returns : goal.returns
returns c =
    let all = c.deref.ensures.value ∙ c.in_ok-nets.ensures.nets ∙ ap (range_with_len 0) c.len.ensures.value in
    subst (λ (n : Netlist). IfOk c.headers_of.result (AreHeaders n.names)) c.netlist-netlist.ensures
    (whole-headers c.netlist-netlist.result.now c.deref.result.now c.headers_of.result all c.headers_of.ensures.scoped c.headers_of.ensures.plain)
