-- What comes of writing a text, and why it broke off.
use Rattle.std.specs.Prelude.{◌≡◌, ℕ, List, Option, Result, IfErr, IfOk, OnOk, length}
use Rattle.std.specs.Io.KnownBytes.{Appends}
use Rattle.cmb_run_text.specs.Beginnings.{HasBegun, IsCutOff}
use Rattle.cmb_io.specs.declared.sink.Sink as sink
use Rattle.cmb_io.specs.declared.write_fault.WriteFault.{WriteFault}
use Rattle.cmb_io.specs.declared.write_fault.WriteFault.TheVariants.{Write, Memory}

-- why a text isn't written whole, and that a beginning of it is; where the sink failed that is the answer
abbrev pub IsBrokenOff : List ℕ → Option (List ℕ) → Option (List ℕ) → ℕ → ℕ → WriteFault → Type 0
IsBrokenOff text old new before after (Write written) = IsCutOff text old new before after written
IsBrokenOff text old new before after Memory = HasBegun text old new × (after ≡ before)

-- A sink, as a call found it and left it, and a text. Where the answer is Ok the sink took the text and nothing else, no
-- write failed, and the text's length is told. Else the sink took a beginning of it, and the answer is why.
pub record IsWrittenTo {S : Type 0} (s : sink.Ghosts S) (text : List ℕ) (old new : S) (answer : Result ℕ WriteFault) : Type 0 where
  pub told : IfOk answer (λ written. written ≡ length text)
  pub taken : OnOk answer (Appends (s.taken old) (s.taken new) text)
  pub no_failure : OnOk answer (s.failures new ≡ s.failures old)
  pub fault : IfErr answer (IsBrokenOff text (s.taken old) (s.taken new) (s.failures old) (s.failures new))
