-- Identifier codes that are made once.
use Rattle.std.specs.Prelude.{◌≡◌, ℕ, ◌<◌, List, [], ◌∷◌, length, slice_index_or}
use Rattle.cmb_run_text.specs.declared.ready_codes.Code.{Code}
use Rattle.cmb_run_text.specs.declared.ready_codes.Code.TheVariants.{One, Two, Three}
use Rattle.cmb_run_text.specs.Vcd.{code}

abbrev pub code_bytes : Code → List ℕ
code_bytes (One a) = a ∷ []
code_bytes (Two a b) = a ∷ b ∷ []
code_bytes (Three a b c) = a ∷ b ∷ c ∷ []

-- a list's codes are those of the nets with these numbers
abbrev pub AreCodes : List Code → Type 0
AreCodes codes = (net : ℕ) → net < length codes → code_bytes (slice_index_or codes net (One 0)) ≡ code net
