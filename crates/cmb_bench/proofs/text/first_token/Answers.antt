use Rattle.std.proofs.Common.{sym, ◌∙◌}
use Rattle.cmb_bench.specs.declared.text.Class.TheVariants.{Name}
use Rattle.cmb_bench.proofs.Lexing.{first_token, first_mark}
use Rattle.cmb_bench.proofs.text.first_token.Goals as goal

pub returns-in-Name-clause-tokens : goal.returns-in-Name-clause-tokens
returns-in-Name-clause-tokens c = λ line last. first_token line last _ _ _ Name _ c.in_ok-first.ensures.cases.0 (sym c.in-Name.is ∙ c.class_of.ensures) c.requires (record { within = c.run_len.ensures.within; before = c.run_len.ensures.before; stops = c.run_len.ensures.stops })

pub returns-in_default-clause-tokens : goal.returns-in_default-clause-tokens
returns-in_default-clause-tokens c = λ line last. first_mark line last _ _ _ _ c.in_ok-first.ensures.cases.0 c.class_of.ensures c.requires c.in_default.not-Name
