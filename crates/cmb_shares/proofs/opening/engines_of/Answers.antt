use Rattle.std.proofs.Common.{[], Result, Ok, length, map, get_or, ap, arith}
use Rattle.std.proofs.lemmas.List.{length-map}
use Rattle.std.proofs.lemmas.Result.{IfOk-weaker}
use Rattle.std.specs.declared.alloc.AllocError.{AllocError}
use Rattle.cmb_dump.specs.Shown.{subject_of}
use Rattle.cmb_engine.specs.Shares.{ShareEngine}
use Rattle.cmb_graph_partition.specs.declared.shares.Share.{Share}
use Rattle.cmb_shares.specs.Inner.Opened.{IsEngineOf}
use Rattle.cmb_shares.proofs.OpeningFacts.{each-ok}
use Rattle.cmb_shares.proofs.opening.engines_of.Goals as goal

pub returns-clause-count : goal.returns-clause-count
returns-clause-count g c =
    IfOk-weaker c.all_of.result _ _
    (λ engines are. omega (arith, ap length are, length-map {B = Result ShareEngine AllocError} engines.items Ok, c.in_ok-made.ensures.len, c.in_ok-made.made.ok))
    c.all_of.ensures

pub returns-clause-each : goal.returns-clause-each
returns-clause-each g c =
    let each = c.in_ok-made.ensures.each in
    let partition = c.args.partition.now in
    IfOk-weaker c.all_of.result _ _
    (λ engines are.
    each-ok (λ k e. IsEngineOf (subject_of c.args.design.now c.args.shown) partition.crossing.items partition.owners.items k (get_or (map (λ (s : Share). s.driven.items) partition.shares.items) k []) e) c.in_ok-made.made.items engines.items are
    (λ k d h. (each k d (omega (arith, h, c.in_ok-made.ensures.len, c.in_ok-made.made.ok))).1.met))
    c.all_of.ensures
