use Rattle.std.proofs.Common.{rules, ◌≡◌, ◌<◌, ◌+◌, ◌-◌, ◌∙◌, sym, ap, subst, arith, vec_len, List, ℕ, length, drop, take}
use Rattle.std.specs.Prelude.{All}
use Rattle.std.specs.Vec.{with_items}
use Rattle.std.proofs.lemmas.List.{length-drop, with_items_is}
use Rattle.std.proofs.lemmas.List.Elements.{All-drop}
use Rattle.cmb_graph.specs.Loops.{targets}
use Rattle.cmb_graph.specs.Inner.Search.{AreSet, IsLooped, IsUnderWay}
use Rattle.cmb_graph.specs.declared.search.Frame.{Frame}
use Rattle.cmb_graph.specs.declared.search.Search.{Search}
use Rattle.cmb_graph.specs.declared.search.Seen.TheVariants.{Done}
use Rattle.cmb_graph.specs.declared.steps.Steps.{Steps}
use Rattle.cmb_netlist.specs.Netlist.{Netlist}
use Rattle.cmb_graph.proofs.NewFacts.{fewer_new, still_closed}
use Rattle.cmb_graph.proofs.PathFacts.{finished, last_within, part_is, path_inside}
use Rattle.cmb_graph.proofs.path.finish.Goals.{After-truncate}
use Rattle.cmb_graph.proofs.path.finish.Goals as goal

pub offset_bounds-as_slice-place : goal.offset_bounds-as_slice-place
offset_bounds-as_slice-place c =
    let low = last_within c.args.netlist.now c.args.steps c.args.search.now c.args.search.now.frames.items (record { place = c.args.place; next = c.requires.scanned.0 }) c.requires.scanned.2 in
    let within : c.args.place < length c.as_slice.result.now = rw c.as_slice.ensures.value low in
    search (rules, within)

pub slice_bounds-part-count : goal.slice_bounds-part-count
slice_bounds-part-count c =
    let within = last_within c.args.netlist.now c.args.steps c.args.search.now c.args.search.now.frames.items (record { place = c.args.place; next = c.requires.scanned.0 }) c.requires.scanned.2 in
    rw c.as_slice.ensures.value (omega (arith, within))

pub mark_loops-requires-clause-some : goal.mark_loops-requires-clause-some
mark_loops-requires-clause-some c =
    let within = last_within c.args.netlist.now c.args.steps c.args.search.now c.args.search.now.frames.items (record { place = c.args.place; next = c.requires.scanned.0 }) c.requires.scanned.2 in
    rw (part_is c.as_slice.result.now c.args.search.now.path.items c.args.place c.as_slice.ensures.value)
    (omega (arith, within, length-drop c.args.place c.args.search.now.path.items))

pub mark_loops-requires-clause-long : goal.mark_loops-requires-clause-long
mark_loops-requires-clause-long c = ap length c.as_mut_slice.ensures.value ∙ c.requires.scanned.2.is.long ∙ c.requires.scanned.2.sized

pub mark_loops-requires-clause-inside : goal.mark_loops-requires-clause-inside
mark_loops-requires-clause-inside c =
    let Inside : ℕ → Type 0 = λ net. net < length c.args.netlist.now.names in
    let P : List ℕ → Type 0 = λ nets. All Inside nets in
    subst P (sym (part_is c.as_slice.result.now c.args.search.now.path.items c.args.place c.as_slice.ensures.value))
    (All-drop Inside c.args.place c.args.search.now.path.items (path_inside c.args.netlist.now c.args.steps c.args.search.now _ c.requires.scanned.2))

-- the nets of the part are within a list that is as long as there are nets
inside : (netlist : Netlist) (steps : Steps) (search : Search) (frames : List Frame) (place : ℕ) (path : List ℕ) (long : ℕ) → IsUnderWay netlist steps search frames → path ≡ search.path.items
    → long ≡ length netlist.names → All (λ net. net < long) (take (length path - place) (drop place path))
inside netlist steps search frames place path long under is same =
    let P : List ℕ → Type 0 = λ nets. All (λ net. net < long) nets in
    subst P (sym (part_is path search.path.items place is)) (rw same (All-drop (λ net. net < length netlist.names) place search.path.items (path_inside netlist steps search frames under)))

pub set_all-requires : goal.set_all-requires
set_all-requires c =
    inside c.args.netlist.now c.args.steps c.args.search.now _ c.args.place c.as_slice.result.now (length c.as_mut_slice-2.result.now) c.requires.scanned.2 c.as_slice.ensures.value
    (ap length c.as_mut_slice-2.ensures.value ∙ c.requires.scanned.2.numbered.long ∙ c.requires.scanned.2.sized)

pub set_all-requires-2 : goal.set_all-requires-2
set_all-requires-2 c =
    inside c.args.netlist.now c.args.steps c.args.search.now _ c.args.place c.as_slice.result.now (length c.as_mut_slice-3.result.now) c.requires.scanned.2 c.as_slice.ensures.value
    (ap length c.as_mut_slice-3.ensures.value ∙ c.requires.scanned.2.sized)

part : (c : After-truncate) → take (length c.as_slice.result.now - c.args.place) (drop c.args.place c.as_slice.result.now) ≡ drop c.args.place c.args.search.now.path.items
part c = part_is c.as_slice.result.now c.args.search.now.path.items c.args.place c.as_slice.ensures.value

shut : (c : After-truncate) → AreSet Done c.args.search.now.seen.items (drop c.args.place c.args.search.now.path.items) (with_items c.args.search.now.seen c.set_all-2.new.values).items
shut c =
    let long = c.set_all-2.ensures.long ∙ c.as_mut_slice-3.ensures.len in
    rw (with_items_is c.args.search.now.seen c.set_all-2.new.values long) (rw (part c, c.as_mut_slice-3.ensures.value) at c.set_all-2.ensures)

looped : (c : After-truncate) → IsLooped (targets c.args.netlist.now c.args.steps) c.args.search.now.marks.items (drop c.args.place c.args.search.now.path.items)
    (with_items c.args.search.now.marks c.mark_loops.new.marks).items
looped c =
    let long = c.mark_loops.ensures.long ∙ c.as_mut_slice.ensures.len in
    rw (with_items_is c.args.search.now.marks c.mark_loops.new.marks long) (rw (part c, c.as_mut_slice.ensures.value) at c.mark_loops.ensures)

given : (c : After-truncate) → AreSet c.args.search.now.done c.args.search.now.numbers.items (drop c.args.place c.args.search.now.path.items) (with_items c.args.search.now.numbers c.set_all.new.values).items
given c =
    let long = c.set_all.ensures.long ∙ c.as_mut_slice-2.ensures.len in
    rw (with_items_is c.args.search.now.numbers c.set_all.new.values long) (rw (part c, c.as_mut_slice-2.ensures.value) at c.set_all.ensures)

more : (c : After-truncate) → c.args.search.now.done + length (take (length c.as_slice.result.now - c.args.place) (drop c.args.place c.as_slice.result.now)) ≡ c.args.search.now.done + length (drop c.args.place c.args.search.now.path.items)
more c = ap (λ nets. c.args.search.now.done + length nets) (part c)

pub overflow_add-search : goal.overflow_add-search
overflow_add-search c =
    let under = c.requires.scanned.2 in
    let ok = c.args.search.now.seen.ok in
    let small = c.args.search.now.seen.small in
    rw (part_is c.as_slice.result.now c.args.search.now.path.items c.args.place c.as_slice.ensures.value)
    (omega (arith, under.room, under.sized, ok.0, small, length-drop c.args.place c.args.search.now.path.items))

pub returns-clause-under : goal.returns-clause-under
returns-clause-under c =
    let long : vec_len c.args.search.now.starts ≡ length c.args.search.now.starts.items = let ok = c.args.search.now.starts.ok.0 in omega (arith, ok) in
    finished c.args.netlist.now c.args.steps c.args.search.now _ c.args.search.now.frames.items c.args.place c.requires.scanned c.requires.some c.requires.last
    (c.pop.ensures.rest ∙ ap (λ n. take (n - 1) c.args.search.now.starts.items) long) c.truncate.ensures.items
    (looped c) (shut c) (given c) (more c)

pub returns-clause-still : goal.returns-clause-still
returns-clause-still c = still_closed c.args.search.now.seen.items _ (drop c.args.place c.args.search.now.path.items) (shut c)

pub returns-clause-fresh : goal.returns-clause-fresh
returns-clause-fresh c = fewer_new c.args.search.now.seen.items _ (shut c).long (returns-clause-still c)
