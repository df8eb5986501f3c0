-- The engine of a share that is all nets.
use Rattle.std.proofs.Common.{◌≡◌, ℕ, ◌<◌, true, false, Bool, List, [], get_or, sym, ap, ◌∙◌}
use Rattle.std.specs.Prelude.{replicate}
use Rattle.std.proofs.lemmas.Bool.{false≢true}
use Rattle.std.proofs.lemmas.List.{get_or-replicate}
use Rattle.std.proofs.lemmas.List.Elements.{All-contains}
use Rattle.cmb_wave.specs.declared.level.Level.{Level}
use Rattle.cmb_netlist.proofs.Wired.{pins-below}
use Rattle.cmb_netlist.specs.Netlist.{IsNetlist, driver_of, pins_of}
use Rattle.cmb_design_model.specs.Exact.{nets_of}
use Rattle.cmb_design_model.specs.Value.{value}
use Rattle.cmb_words.specs.declared.changed.Changed.{Changed}
use Rattle.cmb_words.specs.Changes.{Tells}
use Rattle.cmb_engine.specs.Shares.{IsDriven, IsGiven, IsOwed, ShareEngine, TellsAll, TellsThose, is_told}
use Rattle.cmb_engine.specs.Inner.States.{DrivesAll}

pub drives-all : (share : ShareEngine) → IsNetlist share.design.netlist → (marks : List Bool) → marks ≡ replicate (nets_of share.design) true → share.driven ≡ marks
    → ((net : ℕ) → get_or marks net false ≡ true → is_told share.told net ≡ true) → DrivesAll share
drives-all share netlist marks full whole tells = record {
  all = all;
  alone = λ net given.
      let inside = All-contains (λ pin. pin < nets_of share.design) (pins_of (driver_of share.design.netlist given.reader)) net (pins-below share.design.netlist netlist given.reader) given.read in
      false≢true (sym given.undriven ∙ all net inside);
  told = λ net small. tells net (marked net small);
}
  where
    marked : (net : ℕ) → net < nets_of share.design → get_or marks net false ≡ true
    marked net small = ap (λ (ds : List Bool). get_or ds net false) full ∙ get_or-replicate (nets_of share.design) net true false small

    all : (net : ℕ) → net < nets_of share.design → IsDriven share.driven net
    all net small = ap (λ (ds : List Bool). get_or ds net false) whole ∙ marked net small

-- it stays so
pub drives-on : (old new : ShareEngine) → new.design ≡ old.design → new.driven ≡ old.driven → new.told ≡ old.told → DrivesAll old → DrivesAll new
drives-on old new same_design same_driven same_told drives = rw (same_design, same_driven, same_told) record { all = drives.all; alone = drives.alone; told = drives.told }

-- nothing has to be given to it
pub none-given : (share : ShareEngine) (level : ℕ → ℕ → Level) (from upto : ℕ) → DrivesAll share → TellsThose (IsGiven share.design share.driven) level from upto []
none-given share level from upto drives = record {
  words = λ one among given. absurd (drives.alone one.net given);
  others = λ net given. absurd (drives.alone net given);
}

-- and what it tells is of all nets
pub all-told : (share : ShareEngine) (from upto : ℕ) (changed : List Changed) → DrivesAll share
    → TellsAll (IsOwed share) (value share.design) from upto changed → Tells (value share.design) (nets_of share.design) from upto changed
all-told share from upto changed drives tells = record {
  words = tells.words;
  others = λ net small. tells.others net (drives.all net small, drives.told net small);
}
