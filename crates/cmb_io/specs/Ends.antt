-- What a write to a sink means.
use Rattle.std.specs.Prelude.{ℕ, List, [], ◌∷◌, zero, suc, Ok, Err, Result}
use Rattle.cmb_io.specs.declared.sink.Failed.{Failed}

-- how many failures a write of this text adds: an error is one, and so is a write that takes none of a text that isn't empty
abbrev pub write_failures : Result ℕ Failed → List ℕ → ℕ
write_failures (Err e) text = 1
write_failures (Ok zero) [] = 0
write_failures (Ok zero) (b ∷ bs) = 1
write_failures (Ok (suc n)) text = 0
