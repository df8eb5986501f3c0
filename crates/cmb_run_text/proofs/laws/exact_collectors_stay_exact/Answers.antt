use Rattle.cmb_run_text.proofs.ExactFacts.{adopted_exact, adopted_taken, collected_clash, collected_exact, new_exact, whole_from}
use Rattle.cmb_run_text.proofs.PartFacts.{exact_part}
use Rattle.cmb_run_text.proofs.laws.exact_collectors_stay_exact.Goals as goal

pub returns : goal.returns
returns c = record {
  opens = new_exact;
  takes = collected_exact;
  adopts = adopted_exact;
  as_taken = adopted_taken;
  no_clash = λ design collector piece tick exact p. collected_clash design 0 collector piece (whole_from design 0 collector exact) p tick;
  tells = exact_part;
}
