use Rattle.std.proofs.Common.{◌≡◌, sym, ◌∙◌, arith, length, ◌<◌}
use Rattle.std.proofs.lemmas.List.{get_or_read}
use Rattle.std.proofs.lemmas.Result.{on_ok_weaker}
use Rattle.cmb_graph.specs.Inner.Search.{seen_of}
use Rattle.cmb_graph.specs.declared.search.Seen.TheVariants.{New}
use Rattle.cmb_graph.proofs.NewFacts.{found_entered, still_entered}
use Rattle.cmb_graph.proofs.PathFacts.{begun_under}
use Rattle.cmb_graph.proofs.path.visit.Goals as goal

pub enter-requires : goal.enter-requires
enter-requires c = omega (arith, c.requires.net, c.requires.under.sized)

pub follow-requires : goal.follow-requires
follow-requires c =
    let within : c.args.net < length c.args.search.now.seen.items = omega (arith, c.requires.net, c.requires.under.sized) in
    let fresh : seen_of c.args.search.now.seen.items c.args.net ≡ New = sym (get_or_read c.args.search.now.seen.items c.args.net c.index.result.now within c.index.ensures New) ∙ c.in-New.is in
    begun_under c.args.netlist.now c.args.steps c.args.search.now c.enter.new.search c.args.net c.requires.under c.requires.frames c.in_ok-enter-in-New.ensures c.requires.net fresh

pub returns-in_ok-enter-in-New-clause-still : goal.returns-in_ok-enter-in-New-clause-still
returns-in_ok-enter-in-New-clause-still c =
    let within : c.args.net < length c.args.search.now.seen.items = omega (arith, c.requires.net, c.requires.under.sized) in
    on_ok_weaker c.follow.result
    (λ still net new. still_entered c.args.search.now.seen.items c.enter.new.search.seen.items c.args.net _ within c.in_ok-enter-in-New.ensures.seen net (still net new))
    c.follow.ensures.still

pub returns-in_ok-enter-in-New-clause-found : goal.returns-in_ok-enter-in-New-clause-found
returns-in_ok-enter-in-New-clause-found c =
    let within : c.args.net < length c.args.search.now.seen.items = omega (arith, c.requires.net, c.requires.under.sized) in
    on_ok_weaker c.follow.result (found_entered c.args.search.now.seen.items c.enter.new.search.seen.items c.follow.new.search.seen.items c.args.net _ within c.in_ok-enter-in-New.ensures.seen)
    c.follow.ensures.still
