-- An exact collector stays so, whether it takes an exact piece or not. Why a run isn't whole.
use Rattle.std.proofs.Common.{◌≡◌, ℕ, subst, sym}
use Rattle.std.specs.Prelude.{Result, Ok, Err, OnOk, OnErr}
use Rattle.cmb_wave.specs.Wave.{Piece}
use Rattle.cmb_design_model.specs.Design.{Design}
use Rattle.cmb_design_model.specs.Exact.{IsExactIn}
use Rattle.cmb_run_text.specs.declared.fault.CollectFault.{CollectFault}
use Rattle.cmb_run_text.specs.Collector.{Collector, IsExactFrom, collected}
use Rattle.cmb_run_text.proofs.ExactFacts.{collected_from}
use Rattle.cmb_run_free.specs.FreeRuns.{IsStoppedAt}
use Rattle.cmb_run_free.specs.Inner.TextWriters.{IsDecided, IsUnfinished}
use Rattle.cmb_run_exact.specs.declared.run_fault.RunFault.{RunFault}
use Rattle.cmb_run_exact.specs.declared.run_fault.RunFault.TheVariants.{Incomplete, Write, Memory}

pub stays_exact : (design : Design) (from : ℕ) (old new : Collector) (piece : Piece) (result : Result ℕ CollectFault)
    → IsExactFrom design from old → IsExactIn design piece
    → OnOk result (collected old piece ≡ Ok new) → OnErr result (new ≡ old) → IsExactFrom design from new
stays_exact design from old new piece (Ok clock) exact whole taken same = collected_from design from old piece exact whole new taken
stays_exact design from old new piece (Err fault) exact whole taken same = subst (λ (c : Collector). IsExactFrom design from c) (sym same) exact

-- a decision is why a run isn't whole
pub decided-unfinished : (given : Result ℕ RunFault) (collector : Collector) (fault : RunFault) → IsDecided given fault → IsUnfinished given collector fault
decided-unfinished given collector Memory d = d
decided-unfinished (Ok n) collector (Write w) d = absurd cc
decided-unfinished (Ok n) collector (Incomplete net upto known) d = absurd cc
decided-unfinished (Err f) collector (Write w) d = cc
decided-unfinished (Err f) collector (Incomplete net upto known) d = cc

-- a run that was stopped isn't whole
pub stopped-unfinished : (given : Result ℕ RunFault) (n : ℕ) (collector : Collector) (fault : RunFault) → given ≡ Ok n → IsStoppedAt collector fault → IsUnfinished given collector fault
stopped-unfinished given n collector Memory ok stopped = absurd stopped
stopped-unfinished given n collector (Write w) ok stopped = absurd stopped
stopped-unfinished given n collector (Incomplete net upto known) ok stopped = subst (λ (g : Result ℕ RunFault). IsUnfinished g collector (Incomplete net upto known)) (sym ok) stopped
