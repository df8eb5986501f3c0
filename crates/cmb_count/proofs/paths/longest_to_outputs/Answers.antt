use Rattle.std.proofs.Common.{◌≡◌, ◌⊎◌, inl, ◌∙◌, ◌+◌, ◌<◌, ℕ, List, ap, sym, subst, length, get_or, take}
use Rattle.std.specs.Prelude.{Contains}
use Rattle.std.proofs.lemmas.List.{take_all, take_more}
use Rattle.std.proofs.lemmas.List.Elements.{All-get_or, Contains-get_or, Contains-push_cases}
use Rattle.cmb_netlist.specs.Netlist.{Netlist}
use Rattle.cmb_count.specs.Inner.LongestPaths.{longest_at, time_at}
use Rattle.cmb_count.specs.Paths.{IsEnd}
use Rattle.cmb_count.specs.declared.paths.Between.TheVariants.{All}
use Rattle.cmb_count.proofs.LongestFacts.{longest_more, longest_same}
use Rattle.cmb_count.proofs.paths.longest_to_outputs.Goals as goal

one_more : (outs : List ℕ) (i net : ℕ) → i < length outs → Contains (take (i + 1) outs) net → Contains (take i outs) net ⊎ (get_or outs i 0 ≡ net)
one_more outs i net within h = Contains-push_cases (take i outs) (get_or outs i 0) net (subst (λ (l : List ℕ). Contains l net) (take_more outs i 0 within) h)

pub loop-output-preserved : goal.loop-output-preserved
loop-output-preserved c =
    let design = c.args.design.now in
    let outs = c.outputs-output-items.result.now in
    let i = c.loop-output.output-index in
    let x : ℕ = get_or outs i 0 in
    let same : outs ≡ design.netlist.outputs = c.outputs-output-items.ensures ∙ ap (λ (n : Netlist). n.outputs) c.netlist.ensures in
    let within : i < length outs = c.loop-output-test.true in
    let low : x < length design.netlist.names = All-get_or (λ net. net < length design.netlist.names) outs i 0 within (subst (λ (l : List ℕ). (k d : ℕ) → k < length l → get_or l k d < length design.netlist.names) (sym same) c.requires.sound.outputs) in
    let end : IsEnd All design x = inl (subst (λ (l : List ℕ). Contains l x) same (Contains-get_or outs i 0 within)) in
    let come : c.longest_at.result ≡ longest_at x (time_at c.args.arrivals.now x) = c.longest_at.ensures ∙ ap (longest_at x) c.at.ensures in
    longest_more design All c.args.arrivals.now x (Contains (take i outs)) (Contains (take (i + 1) outs)) c.loop-output.longest c.longest_at.result c.longer-longest.result c.requires.arrivals low end come
    (λ net h. one_more outs i net within h) c.longer-longest.ensures.one c.longer-longest.ensures.other c.longer-longest.ensures.either c.loop-output.invariant

pub returns : goal.returns
returns c =
    let design = c.args.design.now in
    let outs = c.outputs-output-items.result.now in
    let i = c.loop-output.output-index in
    let same : outs ≡ design.netlist.outputs = c.outputs-output-items.ensures ∙ ap (λ (n : Netlist). n.outputs) c.netlist.ensures in
    let whole : take i outs ≡ design.netlist.outputs = take_all i outs c.loop-output-test.false ∙ same in
    longest_same design All c.args.arrivals.now (Contains (take i outs)) (Contains design.netlist.outputs) c.loop-output.longest (λ net h. subst (λ (l : List ℕ). Contains l net) (sym whole) h) c.loop-output.invariant
