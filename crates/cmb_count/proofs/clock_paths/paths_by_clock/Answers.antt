use Rattle.std.proofs.Common.{◌≡◌, ◌∙◌, ◌++◌, ◌<◌, ◌∷◌, [], ℕ, List, ap, sym, subst, length, get_or, map, take}
use Rattle.std.specs.Prelude.{All}
use Rattle.std.proofs.lemmas.List.{map-append, take_more}
use Rattle.std.proofs.lemmas.List.Elements.{All-get_or, All-push}
use Rattle.cmb_design_model.specs.Timing.{clock_of}
use Rattle.cmb_design_model.specs.declared.rows.Clock.{Clock}
use Rattle.cmb_count.specs.Clocks.{is_first_clocked}
use Rattle.cmb_count.specs.Findings.{ArePaths, clock_in, first_nets}
use Rattle.cmb_count.specs.declared.clock_paths.ClockPaths.{ClockPaths}
use Rattle.cmb_count.proofs.FirstFacts.{first_within}
use Rattle.cmb_count.proofs.clock_paths.paths_by_clock.Goals as goal

pub clock-requires : goal.clock-requires
clock-requires c =
    let design = c.args.design.now in
    let n = length design.netlist.names in
    let nets = c.as_slice-net-items.result.now in
    let is : nets ≡ first_nets c.args.most (is_first_clocked design) n = c.as_slice-net-items.ensures.value ∙ c.in_ok-flops.ensures in
    let Below : List ℕ → Type 0 = λ l. All (λ net. net < n) l in
    All-get_or (λ net. net < n) nets c.loop-net.net-index 0 c.loop-net-test.true (subst Below (sym is) (first_within c.args.most (is_first_clocked design) n))

pub loop-net-preserved : goal.loop-net-preserved
loop-net-preserved c =
    let design = c.args.design.now in
    let nets = c.as_slice-net-items.result.now in
    let i = c.loop-net.net-index in
    let all : List ClockPaths = c.loop-net.all.items in
    let new : ClockPaths = c.in_ok-paths_of.field-0 in
    let clock : new.clock ≡ clock_of design (get_or nets i 0) = c.in_ok-paths_of.ensures.clock ∙ c.clock.ensures.value in
    let Paths : List ClockPaths → Type 0 = λ l. All (ArePaths design) l in
    record {
      clocks = ap (map clock_in) c.in_ok-push.ensures.items ∙ map-append clock_in all (new ∷ [])
          ∙ ap (λ (l : List Clock). l ++ new.clock ∷ []) c.loop-net.invariant.clocks
          ∙ ap (λ (k : Clock). map (clock_of design) (take i nets) ++ k ∷ []) clock
          ∙ sym (ap (map (clock_of design)) (take_more nets i 0 c.loop-net-test.true) ∙ map-append (clock_of design) (take i nets) (get_or nets i 0 ∷ []));
      paths = subst Paths (sym c.in_ok-push.ensures.items) (All-push (ArePaths design) all new c.loop-net.invariant.paths c.in_ok-paths_of.ensures.paths);
    }
