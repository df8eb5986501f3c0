use Rattle.std.proofs.Common.{◌≡◌, ◌+◌, ◌∷◌, List, ap, sym, ◌∙◌, map, drop}
use Rattle.std.proofs.lemmas.Result.{err_from_is_err_and}
use Rattle.cmb_bench.specs.Statement.{Statement}
use Rattle.cmb_bench.specs.declared.parser.Item.{Item}
use Rattle.cmb_bench.specs.Inner.Building.{built, with_drivers}
use Rattle.cmb_bench.specs.Inner.Views.{statement}
use Rattle.cmb_bench.proofs.Listing.{fails_on}
use Rattle.cmb_bench.proofs.Numbers.{items_end, items_next, items_stop}
use Rattle.cmb_bench.proofs.build.add_items.Goals as goal

pub returns-in_err-add_item : goal.returns-in_err-add_item
returns-in_err-add_item c =
    let p = err_from_is_err_and c.from_residual.result c.from_residual.ensures.1 in
    rw (p.1, p.2) (fails_on _ _ _ (λ f h. items_stop _ _ _ _ _ _ _ f c.loop-item.invariant c.loop-item-test.true c.item-item.is h) (c.in_err-add_item.ensures (map statement (drop (c.loop-item.item-index + 1) c.args.items.now))))

pub returns : goal.returns
returns c = sym c.loop-item.invariant ∙ items_end _ _ _ _ _ c.loop-item-test.false

pub loop-item-preserved : goal.loop-item-preserved
loop-item-preserved c =
    let rest = map statement (drop (c.loop-item.item-index + 1) c.args.items.now) in
    let here : map statement (drop c.loop-item.item-index c.args.items.now) ≡ statement c.item-item.result ∷ rest =
    items_next _ _ _ c.loop-item-test.true ∙ ap (λ (x : Item). statement x ∷ rest) (sym c.item-item.is) in
    c.in_ok-add_item.ensures rest
    ∙ sym (ap (λ (ss : List Statement). with_drivers c.loop-item.drivers.items (built c.args.names.now.keys c.loop-item.outputs.keys ss)) here)
    ∙ c.loop-item.invariant
