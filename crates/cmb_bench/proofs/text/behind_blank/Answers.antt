use Rattle.std.proofs.Common.{◌+◌, ap, sym, ◌∙◌}
use Rattle.std.proofs.lemmas.List.{take_rest}
use Rattle.cmb_bench.specs.Text.{tokens_from}
use Rattle.cmb_bench.specs.Inner.Snippet.{snippets_of}
use Rattle.cmb_bench.proofs.Lexing.{behind_white, behind_comment}
use Rattle.cmb_bench.proofs.text.behind_blank.Goals as goal

pub returns-in-White-clause-tokens : goal.returns-in-White-clause-tokens
returns-in-White-clause-tokens c = λ line last. behind_white line last _ _ _ _ c.in_ok-first.ensures.cases.0 (sym c.class_of.ensures ∙ c.in-White.is) c.from.ensures

pub returns-in-Comment-clause-tokens : goal.returns-in-Comment-clause-tokens
returns-in-Comment-clause-tokens c = λ line last. behind_comment line last _ _ _ _ c.in_ok-first.ensures.cases.0 (sym c.class_of.ensures ∙ c.in-Comment.is) (record { within = c.run_len.ensures.within; before = c.run_len.ensures.before; stops = c.run_len.ensures.stops }) ∙ ap (λ l. tokens_from (line + 0) last (snippets_of l)) (sym (take_rest c.in_ok-first.after.now c.run_len.result))
