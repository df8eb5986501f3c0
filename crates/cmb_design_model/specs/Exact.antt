-- When pieces, waves and promises say what the design defines.
use Rattle.std.specs.Prelude.{◌≡◌, ℕ, ◌<◌, ◌≤◌, length}
use Rattle.cmb_wave.specs.declared.level.Promise.{Promise}
use Rattle.cmb_wave.specs.Wave.{Piece, Wave, IsExactPiece, IsExactWave}
use Rattle.cmb_design_model.specs.Design.{Design}
use Rattle.cmb_design_model.specs.Value.{value, count}

abbrev pub nets_of : Design → ℕ
nets_of design = length design.netlist.names

pub record IsExactIn (design : Design) (piece : Piece) : Type 0 where
  pub net : piece.net < nets_of design
  pub exact : IsExactPiece (value design piece.net) design.horizon piece

pub record IsExactWaveIn (design : Design) (wave : Wave) : Type 0 where
  pub net : wave.net < nets_of design
  pub exact : IsExactWave (value design wave.net) design.horizon wave

pub record IsRightIn (design : Design) (promise : Promise) : Type 0 where
  pub net : promise.net < nets_of design
  pub within : promise.upto ≤ design.horizon
  pub count : promise.count ≡ count design promise.net promise.upto
