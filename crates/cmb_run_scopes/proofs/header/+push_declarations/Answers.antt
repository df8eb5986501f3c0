use Rattle.std.proofs.Common.{◌<◌, ◌-◌, ◌∙◌, arith, length}
use Rattle.cmb_run_scopes.proofs.HeaderFacts.{all-declared, item-places, none-declared, scope-more}
use Rattle.cmb_run_scopes.proofs.header.+push_declarations.Goals as goal

pub returns-then-depth-eq0 : goal.returns-then-depth-eq0
returns-then-depth-eq0 t c = none-declared c.args.depth c.args.paths.now c.args.level c.args.places.now c.args.out.now.items c.if-depth-eq0.true

pub push_declarations-requires : goal.push_declarations-requires
push_declarations-requires t c =
    let found_so = c.deref-scope-items.ensures.value ∙ c.in_ok-scopes.ensures in
    let inner = item-places (λ place. place < length c.args.paths.now) c.args.paths.now c.args.level c.args.places.now c.deref-scope-items.result.now c.loop-scope.scope-index c.scope-item.result
    c.places.result.now found_so c.loop-scope-test.true c.scope-item.is c.places.ensures c.requires.places in
    (omega arith, (inner, omega arith))

pub loop-scope-preserved : goal.loop-scope-preserved
loop-scope-preserved t c =
    scope-more (c.args.depth - 1) c.args.paths.now c.args.level c.deref-scope-items.result.now c.loop-scope.scope-index c.scope-item.result c.name.result.now c.places.result.now
    c.loop-scope.out.items c.push_scope.new.out.items c.push_declarations.new.out.items c.extend_from_slice.new.self.items _ c.loop-scope-test.true c.scope-item.is c.name.ensures c.places.ensures
    c.in_ok-push_scope.ensures c.in_ok-push_declarations.ensures c.in_ok-extend_from_slice.ensures.items c.loop-scope.invariant

pub returns : goal.returns
returns t c =
    all-declared c.args.depth (c.args.depth - 1) c.args.paths.now c.args.level c.args.places.now c.deref-scope-items.result.now c.loop-scope.scope-index c.args.out.now.items c.push_nets.new.out.items
    c.loop-scope.out.items (omega arith) (c.deref-scope-items.ensures.value ∙ c.in_ok-scopes.ensures) c.in_ok-push_nets.ensures c.loop-scope-test.false c.loop-scope.invariant
