use Rattle.std.proofs.Common.{arith}
use Rattle.cmb_design_model.proofs.PlaceFacts.{slot, slot_within}
use Rattle.cmb_design_model.proofs.delays.read_place.Goals as goal

pub index-requires : goal.index-requires
index-requires c = omega (arith, slot_within _ _ _ _ _ _ c.requires.place c.requires.places)

pub returns : goal.returns
returns c = slot _ _ _ _ _ _ c.index.result.now c.requires.place c.requires.places c.index.ensures
