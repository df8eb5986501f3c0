use Rattle.std.proofs.Common.{◌<◌, ℕ, string_bytes}
use Rattle.cmb_explain.specs.Known.{IsFaultNumber}
use Rattle.cmb_explain.specs.Listed.{HasRow}
use Rattle.cmb_explain.proofs.text.fault_list.Given as goal

abbrev pub invariant-loop-number : goal.invariant-loop-number
invariant-loop-number l = (number : ℕ) → number < l.number → IsFaultNumber number → HasRow (string_bytes l.text) number
