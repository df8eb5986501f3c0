use Rattle.std.proofs.Common.{◌≡◌, ℕ, ◌∙◌, ◌++◌, ap}
use Rattle.std.specs.Prelude.{filter}
use Rattle.std.specs.List.Sorted.{IsPermutation}
use Rattle.std.proofs.lemmas.Result.{on_ok_weaker}
use Rattle.cmb_run_text.specs.Inner.Ticks.{span_lines}
use Rattle.cmb_run_text.specs.Inner.ValueChanges.{value_changes_text, is_at, value_changes_in}
use Rattle.cmb_run_text.proofs.SpanFacts.{compared}
use Rattle.cmb_run_text.proofs.text.push_compared.Goals as goal

pub returns : goal.returns
returns c = λ from to late order inside.
    let all = value_changes_in c.args.parts.now in
    let sorted = c.sort_value_changes.new.events.items in
    let gathered = c.in_ok-events.ensures.events in
    let moved : IsPermutation all sorted = rw gathered at c.sort_value_changes.ensures.moved in
    let stable : (tick : ℕ) → filter (is_at tick) sorted ≡ filter (is_at tick) all = λ tick. c.in_ok-sort_value_changes.ensures.stable tick ∙ ap (filter (is_at tick)) gathered in
    let new = c.push_value_changes.new.out.items in
    let old = c.args.out.now.items in
    let spans : new ≡ old ++ value_changes_text 0 c.as_slice.result.now → new ≡ old ++ span_lines all from to = λ pushed.
    pushed ∙ ap (λ es. old ++ value_changes_text 0 es) c.as_slice.ensures.value
    ∙ ap (λ t. old ++ t) (compared from to 0 all sorted late order inside c.in_ok-sort_value_changes.ensures.sorted moved stable) in
    on_ok_weaker c.push_value_changes.result spans c.push_value_changes.ensures
