use Rattle.std.proofs.Common.{◌+◌, ◌++◌, ◌∷◌, [], ◌∙◌, ap, arith, sym, refl, map}
use Rattle.std.specs.List.{range_with_len}
use Rattle.std.proofs.lemmas.List.FromFn.{map-range_with_len_more}
use Rattle.cmb_design_model.specs.Inner.Tables.{start}
use Rattle.cmb_design_model.proofs.RowFacts.{start-next}
use Rattle.cmb_design_model.proofs.delays.lay_out.Goals as goal

pub loop-net-init : goal.loop-net-init
unfolding start
loop-net-init c = (c.new-starts.ensures.items, refl)

pub loop-net-preserved : goal.loop-net-preserved
loop-net-preserved c =
    let netlist = c.args.netlist.now in
    let net = c.loop-net.net in (
      c.in-Ok.ensures.items ∙ ap (λ t. t ++ c.loop-net.next ∷ []) c.loop-net.invariant.0 ∙ ap (λ n. map (start netlist) (range_with_len 0 net) ++ n ∷ []) c.loop-net.invariant.1
          ∙ sym (map-range_with_len_more (start netlist) 0 net net (omega arith)),
      c.in-Some.ensures.1 ∙ ap (λ n. n + c.pin_count.result) c.loop-net.invariant.1 ∙ ap (λ n. start netlist net + n) c.pin_count.ensures ∙ sym (start-next netlist net),
    )
