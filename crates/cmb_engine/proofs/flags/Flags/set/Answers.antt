use Rattle.std.proofs.Common.{◌<◌, ℕ, List, length, slice_set, sym, subst}
use Rattle.cmb_engine.specs.Inner.Flags.{Sets}
use Rattle.cmb_engine.proofs.FlagFacts.{sets}
use Rattle.cmb_engine.proofs.flags.Flags.set.Goals as goal

pub returns : goal.returns
returns c =
    subst (λ (s : List ℕ). Sets s (slice_set c.self.inside.bytes.items c.args.k 1) c.args.k) c.self.view_is
    (sets c.self.inside.bytes.items c.args.k (subst (λ (s : List ℕ). c.args.k < length s) (sym c.self.view_is) c.requires))
