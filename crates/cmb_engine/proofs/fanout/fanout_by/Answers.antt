use Rattle.std.proofs.Common.{ℕ, length, map, arith}
use Rattle.std.proofs.lemmas.List.{length-map}
use Rattle.smallvec.specs.SmallVec.{SmallVec}
use Rattle.cmb_engine.specs.Inner.Cells.{is_flop, is_gate}
use Rattle.cmb_engine.proofs.ReaderFacts.{ranked-fanout, slots-within}
use Rattle.cmb_engine.proofs.fanout.fanout_by.Goals as goal

pub ranked-requires : goal.ranked-requires
ranked-requires c =
    slots-within c.in_ok-order.order (length c.args.gates.now) c.in_ok-order.ensures.ordered
    (omega (arith, c.in_ok-order.ensures.ranked, length-map c.args.gates.now (λ (v : SmallVec ℕ). v.items), c.requires.gates.count))

pub ranked-requires-2 : goal.ranked-requires-2
ranked-requires-2 c =
    slots-within c.in_ok-order.order (length c.args.flops.now) c.in_ok-order.ensures.ordered
    (omega (arith, c.in_ok-order.ensures.ranked, length-map c.args.flops.now (λ (v : SmallVec ℕ). v.items), c.requires.flops.count))

pub returns-clause-gates : goal.returns-clause-gates
returns-clause-gates c =
    ranked-fanout is_gate c.args.cells.now c.in_ok-order.order (map (λ (v : SmallVec ℕ). v.items) c.args.gates.now) c.in-Ok-ranked.gates c.in-Ok-ranked.ensures
    c.requires.gates c.in_ok-order.ensures.ordered c.in_ok-order.ensures.ranked

pub returns-clause-flops : goal.returns-clause-flops
returns-clause-flops c =
    ranked-fanout is_flop c.args.cells.now c.in_ok-order.order (map (λ (v : SmallVec ℕ). v.items) c.args.flops.now) c.in-Ok-ranked-2.flops c.in-Ok-ranked-2.ensures
    c.requires.flops c.in_ok-order.ensures.ordered c.in_ok-order.ensures.ranked
