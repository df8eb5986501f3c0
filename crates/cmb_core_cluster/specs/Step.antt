-- What a process makes of the waves that its cluster has, whatever they hold.
use Rattle.std.specs.Prelude.{ℕ, ◌==◌, nat_lt, List, [], ◌∷◌, if◌then◌else◌}
use Rattle.cmb_wave.specs.declared.level.Level.{Level}
use Rattle.cmb_wave.specs.declared.level.Change.{Change}
use Rattle.cmb_wave.specs.Waveform.{level_at, changes_between}
use Rattle.cmb_wave.specs.Wave.{Piece, Wave, new_wave}
use Rattle.cmb_netlist.specs.Netlist.{driver_of}
use Rattle.cmb_design_model.specs.Design.{Design}
use Rattle.cmb_design_model.specs.Value.{driven_level}
use Rattle.cmb_core_cluster.specs.Reach.{reach_by}

-- the wave of a net among these, a new one where there is none
abbrev pub wave_at : List Wave → ℕ → Wave
wave_at [] net = new_wave net
wave_at (wave ∷ waves) net = if wave.net == net then wave else wave_at waves net

-- a wave in the place of that of its net
abbrev pub with_wave : List Wave → Wave → List Wave
with_wave [] wave = []
with_wave (first ∷ waves) wave = if first.net == wave.net then wave ∷ waves else first ∷ with_wave waves wave

-- the level that a wave of a net tells, its clock and its base
abbrev pub told_level : List Wave → ℕ → ℕ → Level
told_level waves net tick = level_at (wave_at waves net).kept (wave_at waves net).changes tick

abbrev pub told_upto : List Wave → ℕ → ℕ
told_upto waves net = (wave_at waves net).clock

abbrev pub told_from : List Wave → ℕ → ℕ
told_from waves net = (wave_at waves net).base

-- a wave's levels below its clock, and those of a waveform from there on
abbrev pub continued : Wave → (ℕ → Level) → ℕ → Level
continued wave level tick = if nat_lt tick wave.clock then level_at wave.kept wave.changes tick else level tick

-- the changes that a step adds to an output wave up to a tick, from what its cluster's waves tell of the operands
abbrev pub step_changes : Design → List Wave → Wave → ℕ → List Change
step_changes design waves wave to =
    changes_between (continued wave (λ tick. driven_level design (told_level waves) wave.net tick (driver_of design.netlist wave.net))) wave.clock to

-- the tick up to which a step goes
abbrev pub step_reach : Design → List Wave → ℕ → ℕ
step_reach design waves net = reach_by design (told_upto waves) net

-- the piece that a step answers
abbrev pub step_piece : Design → List Wave → Wave → Piece
step_piece design waves wave = record {
  net = wave.net;
  from = wave.clock;
  to = step_reach design waves wave.net;
  changes = step_changes design waves wave (step_reach design waves wave.net);
}
