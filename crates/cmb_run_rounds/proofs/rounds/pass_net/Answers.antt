use Rattle.std.proofs.Common.{◌≡◌, ◌≤◌, ◌∙◌, ℕ, List, Option, Some, None, IsSome, ap, arith, get_or, refl, subst, sym, set, OnOk}
use Rattle.std.proofs.lemmas.Result.{on_ok_weaker}
use Rattle.cmb_wave.specs.Wave.{Piece, Wave, cut_of}
use Rattle.cmb_core_cluster.specs.Clusters.{Cluster, input_slot, told_at}
use Rattle.cmb_core_cluster.specs.Step.{wave_at}
use Rattle.cmb_core_cluster.proofs.Steps.{wave_at-net}
use Rattle.cmb_run_rounds.specs.Inner.Rounds.{AreHandsOf, IsPassedOn, known_to}
use Rattle.cmb_run_rounds.proofs.RoundFacts.{read_nothing, read_taken, told_any}
use Rattle.cmb_run_rounds.proofs.rounds.pass_net.Goals as goal
use Rattle.cmb_run_rounds.proofs.rounds.pass_net.Goals.{After-drop-new-inside}

pub returns-in_default-clause-passed : goal.returns-in_default-clause-passed
returns-in_default-clause-passed g c =
    absurd (c.in_default.not-Some _ (c.in_clock.ensures ∙ told_any g.T.ClusterRun.design g.T.ClusterRun.clustering c.args.hands.now c.requires.hands c.args.reader c.args.net c.requires.reader c.requires.reads c.index-hands-reader.result))

-- a cluster that knows a net up to where a piece of it begins may be given the piece
may_take : (s : Cluster) (waves : List Wave) (net known : ℕ) (piece : Piece) → told_at (λ wave. wave.clock) s net (input_slot s net) ≡ Some known → piece ≡ cut_of (wave_at waves net) known
    → IsSome (input_slot s piece.net) × (piece.from ≤ (wave_at s.waves piece.net).clock)
may_take s waves net known piece told is =
    let same : piece.net ≡ net = ap (λ (p : Piece). p.net) is ∙ wave_at-net waves net in
    subst (λ (n : ℕ). IsSome (input_slot s n) × (piece.from ≤ (wave_at s.waves n).clock)) (sym same) (at (input_slot s net) told)
  where
    at : (o : Option ℕ) → told_at (λ wave. wave.clock) s net o ≡ Some known → IsSome o × (piece.from ≤ (wave_at s.waves net).clock)
    at None q = cc
    at (Some slot) q = let clock : (wave_at s.waves net).clock ≡ known = cc in (refl, omega (arith, clock, ap (λ (p : Piece). p.from) is))

pub deliver-requires-clause-read : goal.deliver-requires-clause-read
deliver-requires-clause-read g c =
    let known : Some c.in-Some.known ≡ Some (known_to c.args.hands.now c.args.reader c.args.net) =
    sym c.in-Some.is ∙ c.in_clock.ensures ∙ told_any g.T.ClusterRun.design g.T.ClusterRun.clustering c.args.hands.now c.requires.hands c.args.reader c.args.net c.requires.reader c.requires.reads c.index-hands-reader.result
    in
    (may_take (get_or c.args.hands.now c.args.reader c.index-hands-reader-in-Some-2.result).cluster (get_or c.args.hands.now c.args.home c.index-hands-home.result).cluster.waves c.args.net c.in-Some.known c.in-Some-2.new
    (told_any g.T.ClusterRun.design g.T.ClusterRun.clustering c.args.hands.now c.requires.hands c.args.reader c.args.net c.requires.reader c.requires.reads c.index-hands-reader-in-Some-2.result ∙ sym known)
    (rw c.in-Some-2.is at c.in_ok-new.ensures.cut)).0

pub deliver-requires-clause-joined : goal.deliver-requires-clause-joined
deliver-requires-clause-joined g c =
    let known : Some c.in-Some.known ≡ Some (known_to c.args.hands.now c.args.reader c.args.net) =
    sym c.in-Some.is ∙ c.in_clock.ensures ∙ told_any g.T.ClusterRun.design g.T.ClusterRun.clustering c.args.hands.now c.requires.hands c.args.reader c.args.net c.requires.reader c.requires.reads c.index-hands-reader.result
    in
    (may_take (get_or c.args.hands.now c.args.reader c.index-hands-reader-in-Some-2.result).cluster (get_or c.args.hands.now c.args.home c.index-hands-home.result).cluster.waves c.args.net c.in-Some.known c.in-Some-2.new
    (told_any g.T.ClusterRun.design g.T.ClusterRun.clustering c.args.hands.now c.requires.hands c.args.reader c.args.net c.requires.reader c.requires.reads c.index-hands-reader-in-Some-2.result ∙ sym known)
    (rw c.in-Some-2.is at c.in_ok-new.ensures.cut)).1

-- the worker took what is new
both : (g : _) (c : After-drop-new-inside g) → OnOk c.deliver.result (AreHandsOf g.T.ClusterRun.design g.T.ClusterRun.clustering (set c.args.hands.now c.args.reader c.deliver.new.self) × IsPassedOn g.T.ClusterRun.clustering c.args.reader c.args.net c.args.hands.now (set c.args.hands.now c.args.reader c.deliver.new.self))
both g c =
    let known : Some c.in-Some.known ≡ Some (known_to c.args.hands.now c.args.reader c.args.net) =
    sym c.in-Some.is ∙ c.in_clock.ensures ∙ told_any g.T.ClusterRun.design g.T.ClusterRun.clustering c.args.hands.now c.requires.hands c.args.reader c.args.net c.requires.reader c.requires.reads c.index-hands-reader.result
    in
    read_taken g.T.ClusterRun.design g.T.ClusterRun.clustering c.args.hands.now c.requires.hands c.args.reader c.args.net c.requires.reader c.requires.reads
    c.args.home c.requires.home c.index-hands-reader-in-Some-2.result c.index-hands-home.result c.in-Some.known known c.in_ok-new.field-0
    c.in_ok-new.ensures.new c.in_ok-new.ensures.cut c.in-Some-2.new c.in-Some-2.is c.deliver.new.self c.deliver.ensures.same c.deliver.result c.deliver.ensures.passed

pub returns-in-Some-2-clause-kept : goal.returns-in-Some-2-clause-kept
returns-in-Some-2-clause-kept g c = on_ok_weaker c.deliver.result (λ b. b.0) (both g c)

pub returns-in-Some-2-clause-passed : goal.returns-in-Some-2-clause-passed
returns-in-Some-2-clause-passed g c = on_ok_weaker c.deliver.result (λ b. b.1) (both g c)

pub returns-in-None-clause-passed : goal.returns-in-None-clause-passed
returns-in-None-clause-passed g c =
    let known : Some c.in-Some.known ≡ Some (known_to c.args.hands.now c.args.reader c.args.net) =
    sym c.in-Some.is ∙ c.in_clock.ensures ∙ told_any g.T.ClusterRun.design g.T.ClusterRun.clustering c.args.hands.now c.requires.hands c.args.reader c.args.net c.requires.reader c.requires.reads c.index-hands-reader.result
    in
    read_nothing g.T.ClusterRun.design g.T.ClusterRun.clustering c.args.hands.now c.requires.hands c.args.reader c.args.net c.requires.reader c.requires.reads
    c.args.home c.requires.home c.index-hands-reader.result c.index-hands-home.result c.in-Some.known known c.in_ok-new.field-0 c.in_ok-new.ensures.new c.in-None.is
