use Rattle.std.proofs.Common.{◌≡◌, ◌∙◌, ap, arith, refl, subst, sym}
use Rattle.cmb_wave.specs.Wave.{Piece, cut_of}
use Rattle.cmb_core_cluster.specs.Clusters.{IsDrivenHere}
use Rattle.cmb_core_cluster.specs.Step.{wave_at}
use Rattle.cmb_core_cluster.proofs.Steps.{wave_at-net}
use Rattle.cmb_run_free.proofs.passing.Passing.cut.Goals as goal

pub returns-clause-cut : goal.returns-clause-cut
returns-clause-cut g c =
    let is : c.in-Some.posted ≡ cut_of (wave_at c.args.cluster.now.waves c.args.self.now.net) c.args.self.now.upto = rw c.in-Some.is at c.in_ok-posted.ensures.cut in
    let from = ap (λ (p : Piece). p.from) is in
    let same = ap (λ (p : Piece). p.from) c.piece.ensures.piece in (
      ap (λ (p : Piece). p.net) is ∙ wave_at-net c.args.cluster.now.waves c.args.self.now.net,
      from,
      omega (arith, c.piece.ensures.exact.exact.not_empty, c.piece.ensures.exact.exact.within, from, same),
      ap (λ (p : Piece). p.to) (sym c.piece.ensures.piece) ∙ sym c.to-to.ensures,
    )

pub returns-clause-of : goal.returns-clause-of
returns-clause-of g c =
    let ws = c.args.cluster.now.waves in
    let is : c.in-Some.posted ≡ cut_of (wave_at ws c.args.self.now.net) c.args.self.now.upto = rw c.in-Some.is at c.in_ok-posted.ensures.cut in
    let net : c.in-Some.posted.net ≡ c.args.self.now.net = ap (λ (p : Piece). p.net) is ∙ wave_at-net ws c.args.self.now.net in
    let from : c.in-Some.posted.from ≡ c.args.self.now.upto = ap (λ (p : Piece). p.from) is in
    let driven : IsDrivenHere c.args.cluster.now c.args.self.now.net = (c.in_ok-posted.ensures.new.0 (rw c.in-Some.is refl)).0 in
    record {
      driven = subst (IsDrivenHere c.args.cluster.now) (sym net) driven;
      cut = is ∙ ap (λ n. cut_of (wave_at ws n) c.args.self.now.upto) (sym net) ∙ ap (cut_of (wave_at ws c.in-Some.posted.net)) (sym from);
    }
