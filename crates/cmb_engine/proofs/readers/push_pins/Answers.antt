use Rattle.std.proofs.Common.{◌<◌, ℕ, length, List, map, get_or, arith, refl, ◌∙◌}
use Rattle.std.proofs.lemmas.List.{length-map}
use Rattle.smallvec.specs.SmallVec.{SmallVec}
use Rattle.cmb_engine.specs.declared.cell.Pin.{Pin}
use Rattle.cmb_engine.proofs.ReaderFacts.{pushed-keeps, pushed-below, pushed-pin}
use Rattle.cmb_engine.proofs.readers.push_pins.Goals as goal

pub loop-pin-preserved : goal.loop-pin-preserved
loop-pin-preserved c =
    let none : Pin = record { net = 0; delay = 0 } in
    let old : List (List ℕ) = map (λ (v : SmallVec ℕ). v.items) c.loop-pin.readers in
    let new : List (List ℕ) = map (λ (v : SmallVec ℕ). v.items) c.push_reader.new.readers in
    let place : ℕ = (get_or c.args.pins.now c.loop-pin.pin-index none).net in
    let here : c.loop-pin.pin-index < length c.args.pins.now = omega arith in
    let room : place < length old = omega (arith, c.requires c.loop-pin.pin-index none here, length-map c.loop-pin.readers (λ (v : SmallVec ℕ). v.items), c.loop-pin.invariant.len) in
    record {
      len = c.push_reader.ensures.len ∙ c.loop-pin.invariant.len;
      within = λ bound small below. pushed-below old new place c.args.net room c.in_ok-push_reader.ensures.lists bound small (c.loop-pin.invariant.within bound small below);
      kept = λ m number h. pushed-keeps old new place c.args.net room c.in_ok-push_reader.ensures.lists m number (c.loop-pin.invariant.kept m number h);
      listed = pushed-pin old new place c.args.net room c.in_ok-push_reader.ensures.lists c.args.pins.now c.loop-pin.pin-index none here refl c.loop-pin.invariant.listed;
    }
