use Rattle.std.proofs.Common.{◌<◌, ℕ, List, length, slice_set, sym, subst}
use Rattle.cmb_engine.specs.Inner.Flags.{Clears}
use Rattle.cmb_engine.proofs.FlagFacts.{clears}
use Rattle.cmb_engine.proofs.flags.Flags.clear.Goals as goal

pub returns : goal.returns
returns c =
    subst (λ (s : List ℕ). Clears s (slice_set c.self.inside.bytes.items c.args.k 0) c.args.k) c.self.view_is
    (clears c.self.inside.bytes.items c.args.k (subst (λ (s : List ℕ). c.args.k < length s) (sym c.self.view_is) c.requires))
