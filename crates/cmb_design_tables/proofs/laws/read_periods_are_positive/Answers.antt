use Rattle.cmb_design_tables.proofs.BoundFacts.{periods_read, same_period, checked_period}
use Rattle.cmb_design_tables.proofs.laws.read_periods_are_positive.Goals as goal

pub returns : goal.returns
returns c = record {
  rows = periods_read;
  row = λ row some i. record { first = row.first; period = same_period row.period some i };
  checked = λ clock passed. checked_period clock.first clock.period passed;
  common = λ clock some i. record { first = clock.first; period = same_period clock.period some i };
}
