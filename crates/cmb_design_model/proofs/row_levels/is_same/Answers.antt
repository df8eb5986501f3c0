use Rattle.std.proofs.Common.{◌≡◌, ◌∙◌, refl}
use denote.Enum.Bare.{sameb}
use Rattle.cmb_wave.specs.contracts.level.Level.{the_type}
use Rattle.cmb_wave.specs.declared.level.Level.{Level}
use Rattle.cmb_wave.specs.declared.level.Level.TheVariants as level
use Rattle.cmb_wave.specs.Waveform.{same_level}
use Rattle.cmb_design_model.proofs.row_levels.is_same.Goals as goal

same_is : (a b : Level) → sameb the_type a b ≡ same_level a b
same_is level.Zero level.Zero = refl
same_is level.Zero level.One = refl
same_is level.Zero level.X = refl
same_is level.One level.Zero = refl
same_is level.One level.One = refl
same_is level.One level.X = refl
same_is level.X level.Zero = refl
same_is level.X level.One = refl
same_is level.X level.X = refl

pub returns : goal.returns
returns c = c.eq.ensures ∙ same_is c.args.a c.args.b
