use Rattle.std.proofs.Common.{inl, inr, refl}
use Rattle.cmb_engine.proofs.ahead.tell_flop.Goals as goal

pub returns-in_ok-push : goal.returns-in_ok-push
returns-in_ok-push c = record { word = c.word_ahead-word.result; holds = c.word_ahead-word.ensures; added = inr c.in_ok-push.ensures.items }

pub returns-else-not-is_steady_from : goal.returns-else-not-is_steady_from
returns-else-not-is_steady_from c = record {
  word = c.word_ahead-word.result;
  holds = c.word_ahead-word.ensures;
  added = inl (c.is_steady_from.ensures.steady c.if-not-is_steady_from.false, refl);
}
