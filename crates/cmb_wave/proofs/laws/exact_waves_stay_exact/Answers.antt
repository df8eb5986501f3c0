use Rattle.cmb_wave.proofs.Waves.{taken-exact, with_piece-exact, heard-exact, from-exact, level_at-exact, cut-exact}
use Rattle.std.proofs.Common.{arith}
use Rattle.cmb_wave.proofs.laws.exact_waves_stay_exact.Goals as goal

pub returns : goal.returns
returns c = record {
  takes = λ level horizon wave piece exact. taken-exact level horizon wave exact piece;
  taken = λ level horizon wave piece exact. with_piece-exact level horizon wave exact piece;
  heard = λ level horizon wave promise exact. heard-exact level horizon wave exact promise;
  forgot = λ level horizon wave upto exact. from-exact level horizon wave exact upto;
  cuts = λ level horizon wave from exact a b. record { not_empty = b; within = exact.within; changes = cut-exact level horizon wave exact from a (omega (arith, b)) };
  promises = λ level horizon wave exact. record { within = exact.within; count = exact.count };
  tells = λ level horizon wave tick exact. level_at-exact level horizon wave exact tick;
}
