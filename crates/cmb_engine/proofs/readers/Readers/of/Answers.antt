use Rattle.std.proofs.Common.{◌-◌, [], length, take, drop, get_or, sym, ap, ◌∙◌, arith}
use Rattle.cmb_engine.proofs.JoinFacts.{IsSublist, read-list, room}
use Rattle.cmb_engine.proofs.readers.Readers.of.Goals as goal
use Rattle.cmb_engine.proofs.readers.Readers.of.Goals.{After-deref}

pub index-requires : goal.index-requires
index-requires c =
    omega (arith, c.self.inside.starts.ok, room c.self.inside.nets.items c.self.inside.starts.items (length c.self.inside.nets.items) c.args.self.now c.args.number c.self.invariant c.self.view_is c.requires)

pub overflow_add-number : goal.overflow_add-number
overflow_add-number c =
    omega (arith, c.self.inside.starts.ok, c.self.inside.starts.small, room c.self.inside.nets.items c.self.inside.starts.items (length c.self.inside.nets.items) c.args.self.now c.args.number c.self.invariant c.self.view_is c.requires)

pub index-requires-2 : goal.index-requires-2
index-requires-2 c =
    omega (arith, c.self.inside.starts.ok, room c.self.inside.nets.items c.self.inside.starts.items (length c.self.inside.nets.items) c.args.self.now c.args.number c.self.invariant c.self.view_is c.requires)

part : (c : After-deref) → IsSublist c.self.inside.nets.items (get_or c.args.self.now c.args.number []) c.index.result.now c.index-2.result.now
part c =
    read-list c.self.inside.nets.items c.self.inside.starts.items c.args.self.now c.args.number c.index.result.now c.index-2.result.now
    c.self.invariant c.self.view_is c.requires c.index.ensures c.index-2.ensures

pub slice_bounds-result-count : goal.slice_bounds-result-count
slice_bounds-result-count c = (part c).rise

pub slice_bounds-result-start : goal.slice_bounds-result-start
slice_bounds-result-start c = omega (arith, (part c).rise)

pub slice_bounds-result-end : goal.slice_bounds-result-end
slice_bounds-result-end c = omega (arith, (part c).rise, (part c).within)

pub returns : goal.returns
returns c =
    ap (λ nets. take (c.index-2.result.now - c.index.result.now) (drop c.index.result.now nets)) c.deref.ensures.value ∙ sym (part c.before).list
