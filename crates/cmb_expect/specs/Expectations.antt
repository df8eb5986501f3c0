-- What is expected of a run: of each row of a table that its net has a level at a tick.
use Rattle.std.specs.Prelude.{Bool, not}
use Rattle.cmb_wave.specs.declared.level.Level.{Level}
use Rattle.cmb_wave.specs.Waveform.{same_level}
use Rattle.cmb_design_model.specs.Design.{Design}
use Rattle.cmb_design_model.specs.Value.{value}
use Rattle.cmb_design_model.specs.declared.expected.Expected.{Expected}

-- the level that the net of a row has at its tick
abbrev pub level_found : Design → Expected → Level
level_found design row = value design row.net row.tick

-- it is another one than the row says
abbrev pub differs : Design → Expected → Bool
differs design row = not (same_level row.level (level_found design row))
