use Rattle.cmb_run_text.proofs.ExactFacts.{collected_clash, collected_from, from_whole, whole_from}
use Rattle.cmb_run_text.proofs.ForgetFacts.{forgot_exact, forgot_least, forgot_taken}
use Rattle.cmb_run_text.proofs.laws.collectors_may_forget.Goals as goal

pub returns : goal.returns
returns c = record {
  whole = whole_from;
  start = from_whole;
  forgets = forgot_exact;
  takes = λ design from collector next piece exact p e. collected_from design from collector piece exact p next e;
  no_clash = λ design from collector piece tick exact p. collected_clash design from collector piece exact p tick;
  least = λ collector upto. forgot_least collector.horizon collector.waves upto;
  answers = forgot_taken;
}
