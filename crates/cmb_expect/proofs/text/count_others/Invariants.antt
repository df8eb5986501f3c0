use Rattle.std.proofs.Common.{◌≡◌, ◌≤◌, map, take}
use Rattle.std.specs.Prelude.{count_by, not}
use Rattle.cmb_wave.specs.declared.level.Level.{Level}
use Rattle.cmb_wave.specs.Waveform.{same_level}
use Rattle.cmb_design_model.specs.declared.expected.Expected.{Expected}
use Rattle.cmb_expect.proofs.text.count_others.Given as goal

abbrev pub invariant-loop-i : goal.invariant-loop-i
invariant-loop-i l =
    (l.count ≤ l.i) × ((level : Expected → Level) → l.found ≡ map level l.rows → l.count ≡ count_by (λ row. not (same_level row.level (level row))) (take l.i l.rows))
