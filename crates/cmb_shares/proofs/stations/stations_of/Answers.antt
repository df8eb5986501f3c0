use Rattle.std.proofs.Common.{◌≡◌, ◌∙◌, ℕ, ◌+◌, ◌<◌, ◌≤◌, List, [], length, get_or, ap, subst, sym, arith}
use Rattle.std.proofs.lemmas.List.{length_push}
use Rattle.std.proofs.lemmas.List.Edits.{length-remove}
use Rattle.cmb_engine.specs.Shares.{ShareEngine}
use Rattle.cmb_shares.specs.declared.message.Envelope.{Envelope}
use Rattle.cmb_shares.specs.Inner.Channels.{greeting}
use Rattle.cmb_shares.specs.Inner.Flows.{AreSources}
use Rattle.cmb_shares.specs.Inner.Opened.{AreEngines, AreStations, IsEngineOf}
use Rattle.cmb_shares.specs.Inner.Processes.{AreLone}
use Rattle.cmb_shares.specs.Inner.Runs.{driven_by, subject_in}
use Rattle.cmb_shares.specs.Inner.Stations.{Standing}
use Rattle.cmb_shares.proofs.StationFacts.{each-push, engines-rest, short-rest}
use Rattle.cmb_shares.proofs.stations.stations_of.Goals as goal

pub station_of-requires-clause-engine : goal.station_of-requires-clause-engine
station_of-requires-clause-engine g c =
    let run = g.T.ShareRun.run in
    let was = c.loop-number.invariant in
    let engine : ShareEngine = c.remove-engine.result in
    let engines = c.loop-number.engines.items in
    let some : 0 < length engines = omega (arith, was.rest, c.loop-number-test.true) in
    subst (λ (e : ShareEngine). IsEngineOf (subject_in run) run.crossing run.owners c.loop-number.number (driven_by run c.loop-number.number) e) (sym c.remove-engine.ensures.value)
    (subst (λ n. IsEngineOf (subject_in run) run.crossing run.owners n (driven_by run n) (get_or engines 0 engine)) (omega arith) (was.each 0 engine some))

pub loop-number-preserved : goal.loop-number-preserved
loop-number-preserved g c =
    let run = g.T.ShareRun.run in
    let was = c.loop-number.invariant in
    let engines = c.loop-number.engines.items in
    let some : 0 < length engines = omega (arith, was.rest, c.loop-number-test.true) in
    let left = c.remove-engine.ensures.items in
    let made = c.in_ok-station.ensures in
    let put = c.in_ok-push.ensures.items in
    let put-source = c.in_ok-push-2.ensures.items in
    let source : Envelope = c.in_ok-station.source in
    record {
      shares = was.shares;
      rest = omega (arith, was.rest, ap length left, length-remove engines 0 some);
      each = subst (AreEngines run (c.loop-number.number + 1)) (sym left) (engines-rest run c.loop-number.number engines some was.each);
      short =
          subst (λ (l : List ShareEngine). (k : ℕ) (d : ShareEngine) → k < length l → run.windows.width ≤ (get_or l k d).width) (sym left)
          (short-rest run.windows.width engines some was.short);
      count = ap length put ∙ length_push c.loop-number.stations.items c.in_ok-station.station ∙ ap (λ n. n + 1) was.count;
      stations =
          subst AreStations (sym put)
          (each-push (λ (k : ℕ) (s : Standing). (s.number ≡ k) × (s.clock ≡ 1)) c.loop-number.stations.items c.in_ok-station.station was.stations (made.number ∙ sym was.count, made.clock));
      lone =
          subst (AreLone (length run.driven)) (sym put)
          (each-push (λ (k : ℕ) (s : Standing). (s.feeds ≡ []) × (s.inlets ≡ []) × (s.text ≡ greeting k (length run.driven))) c.loop-number.stations.items c.in_ok-station.station was.lone
          (made.feeds, made.inlets, made.text ∙ ap (λ (k : ℕ). greeting k (length run.driven)) (sym was.count)));
      told = ap length put-source ∙ length_push c.loop-number.sources.items source ∙ ap (λ n. n + 1) was.told;
      sources =
          subst (AreSources run 1) (sym put-source)
          (each-push (λ (k : ℕ) (e : Envelope). (e.sender ≡ k) × (e.reader ≡ length run.driven) × (e.upto ≡ 1)) c.loop-number.sources.items source was.sources
          (ap (λ (e : Envelope). e.sender) made.source ∙ sym was.told, ap (λ (e : Envelope). e.reader) made.source ∙ was.shares, ap (λ (e : Envelope). e.upto) made.source));
    }
