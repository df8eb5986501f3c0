use Rattle.std.proofs.Common.{◌≡◌, ◌+◌, List, [], ◌∷◌, ◌++◌, ◌<◌, arith, length, refl, rules}
use Rattle.std.proofs.lemmas.List.{length_push}
use Rattle.cmb_graph.specs.Inner.Search.{targets_at}
use Rattle.cmb_graph.proofs.PathFacts.{descended, descended_fresh, descended_still, last_within, net_read, targets_read}
use Rattle.std.proofs.lemmas.Result.{on_ok_weaker}
use Rattle.cmb_graph.specs.declared.search.Frame.{Frame}
use Rattle.cmb_graph.proofs.path.descend.Goals.{After-enter}
use Rattle.cmb_graph.proofs.path.descend.Goals as goal

pub index-requires : goal.index-requires
index-requires c =
    let within = last_within c.args.netlist.now c.args.steps c.args.search.now c.args.search.now.frames.items (record { place = c.args.place; next = c.args.next }) c.requires.2 in
    let long = c.args.search.now.path.ok.0 in
    omega (arith, within, long)

pub targets_from-targets-requires : goal.targets_from-targets-requires
targets_from-targets-requires c =
    net_read c.args.netlist.now c.args.steps c.args.search.now c.args.search.now.frames.items (record { place = c.args.place; next = c.args.next }) c.index.result.now c.requires.2 c.index.ensures

pub offset_bounds-targets-next : goal.offset_bounds-targets-next
offset_bounds-targets-next c =
    let at = targets_read c.args.netlist.now c.args.steps c.args.search.now c.args.search.now c.args.search.now.frames.items (record { place = c.args.place; next = c.args.next }) c.index.result.now
    c.targets_from-targets.result.now c.requires.2 c.index.ensures refl c.targets_from-targets.ensures in
    let within : c.args.next < length c.targets_from-targets.result.now = rw at c.requires.0 in
    search (rules, within)

pub bounds-targets-next : goal.bounds-targets-next
bounds-targets-next c =
    let at = targets_read c.args.netlist.now c.args.steps c.args.search.now c.args.search.now c.args.search.now.frames.items (record { place = c.args.place; next = c.args.next }) c.index.result.now
    c.targets_from-targets.result.now c.requires.2 c.index.ensures refl c.targets_from-targets.ensures in
    rw at c.requires.0

pub enter-requires : goal.enter-requires
enter-requires c =
    let at = targets_read c.args.netlist.now c.args.steps c.args.search.now c.args.search.now c.args.search.now.frames.items (record { place = c.args.place; next = c.args.next }) c.index.result.now
    c.targets_from-targets.result.now c.requires.2 c.index.ensures refl c.targets_from-targets.ensures in
    rw (at, c.requires.2.sized) (c.requires.2.inside _ c.args.next 0 c.requires.0)

at : (c : After-enter) → c.targets_from-targets.result.now ≡ targets_at c.args.netlist.now c.args.steps c.args.search.now c.args.place
at c = targets_read c.args.netlist.now c.args.steps c.args.search.now c.args.search.now c.args.search.now.frames.items (record { place = c.args.place; next = c.args.next }) c.index.result.now
    c.targets_from-targets.result.now c.requires.2 c.index.ensures refl c.targets_from-targets.ensures

pub returns-clause-under : goal.returns-clause-under
returns-clause-under c = on_ok_weaker c.enter.result
    (λ is. descended c.args.netlist.now c.args.steps c.args.search.now _ c.enter.new.search c.args.place c.args.next c.targets_from-targets.result.now c.requires (at c) refl refl refl refl refl refl is
    c.in_ok-push.ensures.items)
    c.enter.ensures

two_more : (old mid new : List Frame) (one other : Frame) → mid ≡ old ++ one ∷ [] → new ≡ mid ++ other ∷ [] → length new ≡ length old + 2
two_more old mid new one other e f = rw (f, e) (omega (arith, length_push old one, length_push (old ++ one ∷ []) other))

pub returns-clause-frames : goal.returns-clause-frames
returns-clause-frames c = on_ok_weaker c.enter.result (λ is. two_more c.args.search.now.frames.items _ c.enter.new.search.frames.items _ _ c.in_ok-push.ensures.items is.frames) c.enter.ensures

pub returns-clause-fresh : goal.returns-clause-fresh
returns-clause-fresh c = on_ok_weaker c.enter.result
    (λ is. descended_fresh c.args.netlist.now c.args.steps c.args.search.now _ c.enter.new.search c.args.place c.args.next c.targets_from-targets.result.now c.requires (at c) refl refl refl refl refl refl is)
    c.enter.ensures

pub returns-clause-still : goal.returns-clause-still
returns-clause-still c = on_ok_weaker c.enter.result
    (λ is. descended_still c.args.netlist.now c.args.steps c.args.search.now _ c.enter.new.search c.args.place c.args.next c.targets_from-targets.result.now c.requires (at c) refl refl refl refl refl refl is)
    c.enter.ensures
