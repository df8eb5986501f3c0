use Rattle.std.proofs.Common.{◌++◌, [], cond, sym, ◌∙◌, ap}
use Rattle.std.proofs.lemmas.List.{append-nil}
use Rattle.cmb_core_cluster.proofs.Changes.{changes_from_held, head}
use Rattle.cmb_core_cluster.proofs.advance.held_changes.Goals as goal

pub returns-in_ok-push : goal.returns-in_ok-push
returns-in_ok-push c = λ row steady.
    let held = changes_from_held row c.args.span.before c.args.level c.args.span.from c.args.span.until c.args.span.ordered steady in
    let one = held ∙ ap (λ b. cond b (head c.args.span.from c.args.level) []) (sym c.begins_anew.ensures ∙ c.if-begins_anew.true) in
    c.in_ok-push.ensures.items ∙ ap (λ cs. c.args.room.now.items ++ cs) (sym one)

pub returns-else-begins_anew : goal.returns-else-begins_anew
returns-else-begins_anew c = λ row steady.
    let held = changes_from_held row c.args.span.before c.args.level c.args.span.from c.args.span.until c.args.span.ordered steady in
    let none = held ∙ ap (λ b. cond b (head c.args.span.from c.args.level) []) (sym c.begins_anew.ensures ∙ c.if-begins_anew.false) in
    sym (ap (λ cs. c.args.room.now.items ++ cs) none ∙ append-nil c.args.room.now.items)
