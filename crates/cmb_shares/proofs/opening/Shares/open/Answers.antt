use Rattle.std.proofs.Common.{◌≡◌, ◌∙◌, ℕ, ◌^◌, ◌<◌, ◌≤◌, Bool, List, length, map, get_or, subst, sym, arith}
use Rattle.std.specs.Prelude.{IfSome, Option}
use Rattle.std.proofs.lemmas.List.{length-map}
use Rattle.cmb_design_model.specs.Timing.{delay}
use Rattle.cmb_dump.specs.Shown.{shown_by, subject_of}
use Rattle.cmb_engine.specs.Crossings.{AreWithinLookahead, IsCrossing}
use Rattle.cmb_engine.specs.Shares.{ShareEngine}
use Rattle.cmb_engine.specs.Windows.{HaveTicks, Windows}
use Rattle.cmb_graph_partition.specs.declared.shares.Share.{Share}
use Rattle.cmb_shares.specs.Inner.Opened.{IsEngineOf, run_of}
use Rattle.cmb_shares.specs.Inner.Runs.{driven_by}
use Rattle.cmb_shares.proofs.OpeningFacts.{is-run}
use Rattle.cmb_shares.proofs.opening.Shares.open.Goals as goal

pub invariant_of-result : goal.invariant_of-result
invariant_of-result g c =
    let design = c.args.design.now in
    let partition = c.args.partition.now in
    let subject = subject_of design c.args.shown in
    let windows : Windows = c.in-Some.windows in
    let made = c.in-Ok.ensures in
    let of : (P : Windows → Type 0) → IfSome c.in-Ok.made P → P windows = λ P h. subst (λ (o : Option Windows). IfSome o P) c.in-Some.is h in
    let width : windows.width ≡ c.least_width-width.result = of (λ w. w.width ≡ c.least_width-width.result) made.width in
    let crossing = c.deref-2.ensures.value in
    let ahead : AreWithinLookahead design partition.crossing.items windows =
    subst (λ (l : List Bool). AreWithinLookahead design l windows) crossing (of (AreWithinLookahead design c.deref-2.result.now) made.ahead) in
    let soon : (net : ℕ) → IsCrossing design partition.crossing.items net → delay design net 1 < windows.width =
    subst (λ (n : ℕ). (net : ℕ) → IsCrossing design partition.crossing.items net → delay design net 1 < n) (sym width)
    (subst (λ (l : List Bool). (net : ℕ) → IsCrossing design l net → delay design net 1 < c.least_width-width.result) crossing
    (of (λ w. (net : ℕ) → IsCrossing design c.deref-2.result.now net → delay design net 1 < c.least_width-width.result) made.soon)) in
    let engines = c.in_ok-engines.engines.items in
    let count : length (map (λ (s : Share). s.driven.items) partition.shares.items) ≡ length partition.shares.items = length-map partition.shares.items (λ (s : Share). s.driven.items) in (
      record {
        lawful = is-run design (shown_by c.args.shown) partition windows c.requires.partition ahead soon (of (λ w. w.horizon ≡ design.horizon) made.horizon) (omega (arith, width, c.least_width-width.ensures.narrow)) (of HaveTicks made.each);
        few = subst (λ n. n < 2 ^ 32) (sym count) c.requires.partition.few;
        count = c.in_ok-engines.ensures.count ∙ sym count;
        each = λ k d h.
            subst (λ n. IsEngineOf subject partition.crossing.items partition.owners.items n (driven_by (run_of subject partition windows) n) (get_or engines k d)) (omega arith) (c.in_ok-engines.ensures.each k d h);
        short = λ k d h.
            subst (λ n. n ≤ (get_or engines k d).width) (sym width)
            (subst (λ (l : List ShareEngine). c.least_width-width.result ≤ (get_or l k d).width) c.deref.ensures.value (c.least_width-width.ensures.least k d (subst (λ (l : List ShareEngine). k < length l) (sym c.deref.ensures.value) h)));
      },
      c.requires.shown,
    )
