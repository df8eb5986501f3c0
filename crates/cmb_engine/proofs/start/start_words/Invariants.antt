use Rattle.std.proofs.Common.{◌≡◌, ◌+◌, length}
use Rattle.cmb_design_model.specs.Exact.{nets_of}
use Rattle.cmb_engine.proofs.ZeroFacts.{AreStarted}
use Rattle.cmb_engine.proofs.start.start_words.Given as goal

abbrev pub invariant-loop-net : goal.invariant-loop-net
invariant-loop-net l = record {
  len : length l.words ≡ nets_of l.design + length l.lines;
  started : AreStarted l.design l.roles l.net l.words;
}
