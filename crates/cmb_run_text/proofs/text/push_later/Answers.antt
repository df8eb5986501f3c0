use Rattle.std.proofs.Common.{◌≡◌, ◌∙◌, ap}
use Rattle.std.specs.List.{All}
use Rattle.std.proofs.lemmas.Result.{on_ok_weaker}
use Rattle.cmb_run_text.specs.Inner.Ticks.{IsWithin}
use Rattle.cmb_run_text.specs.Inner.ValueChanges.{all_value_changes, value_changes_in}
use Rattle.cmb_run_text.proofs.SpanFacts.{span_pushed, within_all}
use Rattle.cmb_run_text.proofs.text.push_later.Goals as goal

pub push_counted-requires-clause-inside : goal.push_counted-requires-clause-inside
push_counted-requires-clause-inside c =
    let same : value_changes_in c.deref-in-Some.result.now ≡ all_value_changes c.args.from c.args.to 0 c.args.waves.now = ap value_changes_in c.deref-in-Some.ensures.value ∙ c.in_ok-parts.ensures.events in
    rw same (within_all c.args.from c.args.to 0 c.args.waves.now)

pub returns-in-Some : goal.returns-in-Some
returns-in-Some c =
    let same : value_changes_in c.deref-in-Some.result.now ≡ all_value_changes c.args.from c.args.to 0 c.args.waves.now = ap value_changes_in c.deref-in-Some.ensures.value ∙ c.in_ok-parts.ensures.events in
    on_ok_weaker c.push_counted.result (span_pushed c.args.from c.args.to c.args.waves.now _ _ _ c.requires.late c.requires.order c.in_ok-parts.ensures.traces same) c.push_counted.ensures

pub returns : goal.returns
returns c =
    let same : value_changes_in c.deref-in_default.result.now ≡ all_value_changes c.args.from c.args.to 0 c.args.waves.now = ap value_changes_in c.deref-in_default.ensures.value ∙ c.in_ok-parts.ensures.events in
    let inside : All (IsWithin c.args.from c.args.to) (value_changes_in c.deref-in_default.result.now) = rw same (within_all c.args.from c.args.to 0 c.args.waves.now) in
    on_ok_weaker c.push_compared.result (span_pushed c.args.from c.args.to c.args.waves.now _ _ _ c.requires.late c.requires.order c.in_ok-parts.ensures.traces same)
    (c.push_compared.ensures c.args.from c.args.to c.requires.late c.requires.order inside)
