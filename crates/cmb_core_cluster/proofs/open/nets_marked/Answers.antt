use Rattle.std.proofs.Common.{◌≡◌, ◌+◌, false, true, ◌||◌, Bool, cond, eqb, get_or, ℕ, [], ◌∷◌, ◌++◌, length, arith, sym, ◌∙◌, ap}
use Rattle.std.specs.Prelude.{filter}
use Rattle.std.specs.List.{range_with_len}
use Rattle.std.proofs.lemmas.List.{append-nil}
use Rattle.cmb_core_cluster.specs.Clustering.{cluster_of}
use Rattle.cmb_core_cluster.proofs.OpeningFacts.{filter_range_more}
use Rattle.cmb_core_cluster.proofs.open.nets_marked.Goals as goal
use Rattle.cmb_core_cluster.proofs.open.nets_marked.Goals.{then-is_held+in_ok-push, else-is_held}

pub loop-net-preserved : goal.loop-net-preserved
loop-net-preserved c =
    let held : ℕ → Bool = λ net. eqb (cluster_of c.args.clustering.now net) c.args.cluster || get_or c.args.read.now net false in
    let more : filter held (range_with_len 0 (c.loop-net.net + 1)) ≡ filter held (range_with_len 0 c.loop-net.net) ++ cond (held c.loop-net.net) (c.loop-net.net ∷ []) [] = filter_range_more held c.loop-net.net in
    elim c.if-is_held.branch [
      | then-is_held+in_ok-push w ↦
          let yes_here : held c.loop-net.net ≡ true = sym c.is_held.ensures ∙ w.if-is_held.true in
          ap (λ v. v.items) w.nets-is ∙ w.in_ok-push.ensures.items ∙ ap (λ xs. xs ++ c.loop-net.net ∷ []) c.loop-net.invariant ∙ sym (more ∙ ap (λ b. filter held (range_with_len 0 c.loop-net.net) ++ cond b (c.loop-net.net ∷ []) []) yes_here)
      | else-is_held w ↦
          let no_here : held c.loop-net.net ≡ false = sym c.is_held.ensures ∙ w.if-is_held.false in
          ap (λ v. v.items) w.nets-is ∙ c.loop-net.invariant ∙ sym (more ∙ ap (λ b. filter held (range_with_len 0 c.loop-net.net) ++ cond b (c.loop-net.net ∷ []) []) no_here ∙ append-nil _)
    ]

pub returns : goal.returns
returns c =
    let held : ℕ → Bool = λ net. eqb (cluster_of c.args.clustering.now net) c.args.cluster || get_or c.args.read.now net false in
    let all : c.loop-net.net ≡ length c.args.read.now = omega (arith, c.loop-net-test.false, c.loop-net.auto.net-end) in
    c.loop-net.invariant ∙ ap (λ n. filter held (range_with_len 0 n)) all
