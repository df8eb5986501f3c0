use Rattle.std.proofs.Common.{◌≡◌, ◌∙◌, ap, arith}
use Rattle.cmb_graph.specs.declared.search.Search.{Search}
use Rattle.cmb_graph.specs.declared.search.Seen.TheVariants.{New}
use Rattle.cmb_graph.proofs.PathFacts.{last_within, net_read, scan_done, scan_on, seen_read, targets_read}
use Rattle.cmb_graph.proofs.path.scan.Goals.{in-On, in-Done}
use Rattle.cmb_graph.proofs.path.scan.Goals as goal

pub index-requires : goal.index-requires
index-requires c =
    let within = last_within c.args.netlist.now c.args.steps c.args.search.now c.args.search.now.frames.items c.args.frame c.requires in
    let long = c.args.search.now.path.ok.0 in
    omega (arith, within, long)

pub bounds-targets-next : goal.bounds-targets-next
bounds-targets-next c = c.loop-next-test.true

pub index-requires-in-loop-next : goal.index-requires-in-loop-next
index-requires-in-loop-next c =
    let at = targets_read c.args.netlist.now c.args.steps c.args.search.now c.loop-next.search c.args.search.now.frames.items c.args.frame c.index.result.now c.targets_from-targets.result.now c.requires
    c.index.ensures c.loop-next.invariant.path c.targets_from-targets.ensures in
    let inside = c.requires.inside _ c.loop-next.next 0 (rw at at c.loop-next-test.true) in
    let long = c.loop-next.search.seen.ok.0 in
    rw at (omega (arith, inside, long, c.loop-next.invariant.under.sized))

pub targets_from-targets-requires : goal.targets_from-targets-requires
targets_from-targets-requires c = net_read c.args.netlist.now c.args.steps c.args.search.now c.args.search.now.frames.items c.args.frame c.index.result.now c.requires c.index.ensures

pub loop-next-preserved : goal.loop-next-preserved
loop-next-preserved c =
    let at = targets_read c.args.netlist.now c.args.steps c.args.search.now c.loop-next.search c.args.search.now.frames.items c.args.frame c.index.result.now c.targets_from-targets.result.now c.requires
    c.index.ensures c.loop-next.invariant.path c.targets_from-targets.ensures in
    elim c.match-index.branch [
      | in-On w ↦
          let seen : c.match-index.search.seen.items ≡ c.loop-next.search.seen.items = ap (λ (s : Search). s.seen.items) w.search-is in
          let marks : c.match-index.search.marks.items ≡ c.loop-next.search.marks.items = ap (λ (s : Search). s.marks.items) w.search-is in
          let path : c.match-index.search.path.items ≡ c.loop-next.search.path.items = ap (λ (s : Search). s.path.items) w.search-is in
          let numbers : c.match-index.search.numbers.items ≡ c.loop-next.search.numbers.items = ap (λ (s : Search). s.numbers.items) w.search-is in
          let done : c.match-index.search.done ≡ c.loop-next.search.done = ap (λ (s : Search). s.done) w.search-is in
          let frames : c.match-index.search.frames.items ≡ c.loop-next.search.frames.items = ap (λ (s : Search). s.frames.items) w.search-is in
          let starts : c.match-index.search.starts.items ≡ w.merge.new.starts.items = ap (λ (s : Search). s.starts.items) w.search-is in
          record {
            under = scan_on c.args.netlist.now c.args.steps c.loop-next.search c.match-index.search c.args.search.now.frames.items c.args.frame.place c.loop-next.next c.targets_from-targets.result.now
                c.index-in-loop-next.result.now w.in-On.place c.loop-next.invariant.under at c.loop-next-test.true c.index-in-loop-next.ensures w.in-On.is seen marks path numbers done
                (rw starts w.merge.ensures.split) (rw starts w.merge.ensures.low);
            seen = seen ∙ c.loop-next.invariant.seen;
            path = path ∙ c.loop-next.invariant.path;
            frames = frames ∙ c.loop-next.invariant.frames;
          }
      | in-Done w ↦
          let same : c.match-index.search ≡ c.loop-next.search = w.search-is in
          record {
            under = scan_done c.args.netlist.now c.args.steps c.loop-next.search c.match-index.search c.args.search.now.frames.items c.args.frame.place c.loop-next.next c.targets_from-targets.result.now
                c.index-in-loop-next.result.now c.loop-next.invariant.under at c.loop-next-test.true c.index-in-loop-next.ensures w.in-Done.is same;
            seen = ap (λ (s : Search). s.seen.items) same ∙ c.loop-next.invariant.seen;
            path = ap (λ (s : Search). s.path.items) same ∙ c.loop-next.invariant.path;
            frames = ap (λ (s : Search). s.frames.items) same ∙ c.loop-next.invariant.frames;
          }
    ]

pub returns-in-New-clause-scanned : goal.returns-in-New-clause-scanned
returns-in-New-clause-scanned c =
    let at = targets_read c.args.netlist.now c.args.steps c.args.search.now c.loop-next.search c.args.search.now.frames.items c.args.frame c.index.result.now c.targets_from-targets.result.now c.requires
    c.index.ensures c.loop-next.invariant.path c.targets_from-targets.ensures in
    let within = rw at at c.loop-next-test.true in (
      within,
      seen_read c.args.netlist.now c.args.steps c.loop-next.search _ _ c.loop-next.next c.index-in-loop-next.result.now New c.loop-next.invariant.under within
          (rw at at c.index-in-loop-next.ensures) c.in-New.is,
      c.loop-next.invariant.under,
    )

pub returns-clause-scanned : goal.returns-clause-scanned
returns-clause-scanned c =
    let at = targets_read c.args.netlist.now c.args.steps c.args.search.now c.loop-next.search c.args.search.now.frames.items c.args.frame c.index.result.now c.targets_from-targets.result.now c.requires
    c.index.ensures c.loop-next.invariant.path c.targets_from-targets.ensures in
    (c.loop-next.next, rw at at c.loop-next-test.false, c.loop-next.invariant.under)
