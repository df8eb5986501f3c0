-- A sink as a call found it and left it, and what it took of a text.
use Rattle.std.specs.Prelude.{◌≡◌, ℕ, ◌+◌, ◌<◌, List, length, take, Option}
use Rattle.std.specs.Io.KnownBytes.{Appends, Keeps}
use Rattle.cmb_faults.specs.declared.fault.Fault.{Fault}
use Rattle.cmb_faults.specs.declared.fault.Fault.TheVariants as fault
use Rattle.cmb_io.specs.declared.sink.Sink as sink

-- the sink: what it had taken before the call and after it, where it tells that, and how many of its writes had failed
pub record Output : Type 0 where
  pub old : Option (List ℕ)
  pub new : Option (List ℕ)
  pub before : ℕ
  pub after : ℕ

abbrev pub output : Option (List ℕ) → Option (List ℕ) → ℕ → ℕ → Output
output old new before after = record { old = old; new = new; before = before; after = after }

-- a sink as a call found it and left it
abbrev pub written_to : {O : Type 0} → sink.Ghosts O → O → O → Output
written_to o old new = output (o.taken old) (o.taken new) (o.failures old) (o.failures new)

-- nothing was written, and no write failed
abbrev pub IsUntouched : Output → Type 0
IsUntouched o = Keeps o.old o.new × (o.after ≡ o.before)

-- a text was written whole, and no write failed
abbrev pub HasTaken : List ℕ → Output → Type 0
HasTaken text o = Appends o.old o.new text × (o.after ≡ o.before)

-- so many bytes of a text were written, and then a write failed
abbrev pub IsCutAfter : ℕ → List ℕ → Output → Type 0
IsCutAfter n text o = (n < length text) × Appends o.old o.new (take n text) × (o.after ≡ o.before + 1)

-- a beginning of a text was written, and no write failed
abbrev pub HasBegun : List ℕ → Output → Type 0
HasBegun text o = ((n : ℕ) × Appends o.old o.new (take n text)) × (o.after ≡ o.before)

-- why a text that is there wasn't written whole
abbrev pub IsCutShort : List ℕ → Output → Fault → Type 0
IsCutShort text o (fault.Write n) = IsCutAfter n text o
IsCutShort text o _ = ⊥
