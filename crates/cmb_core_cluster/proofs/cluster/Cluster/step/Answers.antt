use Rattle.std.proofs.Common.{◌≡◌, ◌<◌, length, List, Option, Some, IfSome, arith, sym, ◌∙◌, ap, subst}
use Rattle.std.specs.List.{AllByRecursion}
use Rattle.std.specs.Prelude.{is_some}
use Rattle.std.proofs.lemmas.Bool.{ltb-false}
use Rattle.cmb_wave.specs.Wave.{Wave, Piece}
use Rattle.cmb_design_model.specs.Exact.{IsExactIn, IsExactWaveIn}
use Rattle.cmb_core_cluster.specs.Rows.{slot_of}
use Rattle.cmb_core_cluster.specs.Inner.Spans.{new_part}
use Rattle.cmb_core_cluster.proofs.Inputs.{other_still}
use Rattle.cmb_core_cluster.proofs.Slots.{slot_there}
use Rattle.cmb_core_cluster.proofs.Driven.{Drives, step_part_is, step_waves_are}
use Rattle.cmb_core_cluster.proofs.ExactFacts.{by_result, if_ok, none_some, kept_here, part_exact, moved_exact, still_exact}
use Rattle.cmb_core_cluster.proofs.OwnFacts.{own_placed, drives_own}
use Rattle.cmb_core_cluster.proofs.Sweeps.{part_rises}
use Rattle.cmb_core_cluster.proofs.cluster.Cluster.step.Goals as goal

pub step_at-requires : goal.step_at-requires
step_at-requires c = slot_there c.args.self.now.waves c.args.net c.in-Some.slot (sym c.place.ensures.place ∙ c.in-Some.is)

pub returns-in-Some-clause-piece : goal.returns-in-Some-clause-piece
returns-in-Some-clause-piece c = λ design clustering cluster of own.
    let place : slot_of c.args.self.now.waves c.args.net ≡ Some c.in-Some.slot = sym c.place.ensures.place ∙ c.in-Some.is in
    let here : Drives design c.args.self.now c.args.net c.in-Some.slot = drives_own design clustering cluster c.args.self.now of c.args.net c.in-Some.slot place own.own in
    rw (step_part_is design c.args.self.now c.args.net c.in-Some.slot here c.step_at.ensures.before) at c.step_at.ensures.part

pub returns-in-Some-clause-waves : goal.returns-in-Some-clause-waves
returns-in-Some-clause-waves c = λ design clustering cluster of own.
    let place : slot_of c.args.self.now.waves c.args.net ≡ Some c.in-Some.slot = sym c.place.ensures.place ∙ c.in-Some.is in
    let here : Drives design c.args.self.now c.args.net c.in-Some.slot = drives_own design clustering cluster c.args.self.now of c.args.net c.in-Some.slot place own.own in
    rw (step_waves_are design c.args.self.now c.args.net c.in-Some.slot here c.step_at.ensures.before) at c.step_at.ensures.waves

pub returns-in-Some-clause-still : goal.returns-in-Some-clause-still
returns-in-Some-clause-still c = λ design clustering cluster of own none.
    let place : slot_of c.args.self.now.waves c.args.net ≡ Some c.in-Some.slot = sym c.place.ensures.place ∙ c.in-Some.is in
    let here : Drives design c.args.self.now c.args.net c.in-Some.slot = drives_own design clustering cluster c.args.self.now of c.args.net c.in-Some.slot place own.own in
    let idle = sym (part_rises c.args.self.now c.in-Some.slot) ∙ ap is_some (step_part_is design c.args.self.now c.args.net c.in-Some.slot here c.step_at.ensures.before ∙ none) in
    c.step_at.ensures.none (ltb-false _ _ idle)

pub returns-in-None-clause-still : goal.returns-in-None-clause-still
returns-in-None-clause-still c = λ design clustering cluster of own none. absurd (none_some _ (sym c.place.ensures.place ∙ c.in-None.is) (own_placed design clustering cluster c.args.self.now of c.args.net own))

pub returns-in-Some-clause-exact : goal.returns-in-Some-clause-exact
returns-in-Some-clause-exact c = λ design clustering cluster exact.
    let there : c.in-Some.slot < length c.args.self.now.waves = slot_there c.args.self.now.waves c.args.net c.in-Some.slot (sym c.place.ensures.place ∙ c.in-Some.is) in
    let P : List Wave → Type 0 = λ ws. AllByRecursion (IsExactWaveIn design) ws in
    still_exact design clustering cluster c.args.self.now c.step_at.new.self c.step_at.ensures.same exact
    (by_result c.step_at.result _ _ (P c.step_at.new.self.waves) c.step_at.ensures.waves c.step_at.ensures.unchanged
    (λ new. subst P (sym new) (moved_exact design clustering cluster c.args.self.now exact.of c.step_at.ensures.sound exact.waves c.in-Some.slot there c.step_at.ensures.before))
    (λ same. subst P (sym (ap (λ s. s.waves) same)) exact.waves))

pub returns-in-Some-clause-sent : goal.returns-in-Some-clause-sent
returns-in-Some-clause-sent c = λ design clustering cluster exact own.
    let place : slot_of c.args.self.now.waves c.args.net ≡ Some c.in-Some.slot = sym c.place.ensures.place ∙ c.in-Some.is in
    let here : Drives design c.args.self.now c.args.net c.in-Some.slot = drives_own design clustering cluster c.args.self.now exact.of c.args.net c.in-Some.slot place own.own in
    let P : Option Piece → Type 0 = λ part. IfSome part (IsExactIn design) in
    let part : P (new_part c.args.self.now c.in-Some.slot) = subst P (sym (step_part_is design c.args.self.now c.args.net c.in-Some.slot here c.step_at.ensures.before)) (part_exact design c.args.self.now.waves c.args.net exact.waves own.there (kept_here design c.args.self.now c.args.net c.in-Some.slot here c.step_at.ensures.sound)) in
    if_ok c.step_at.result _ P c.step_at.ensures.part (λ answer is. subst P (sym is) part)

pub returns-in-None-clause-piece : goal.returns-in-None-clause-piece
returns-in-None-clause-piece c = λ design clustering cluster of own. absurd (none_some _ (sym c.place.ensures.place ∙ c.in-None.is) (own_placed design clustering cluster c.args.self.now of c.args.net own))

pub returns-in-None-clause-waves : goal.returns-in-None-clause-waves
returns-in-None-clause-waves c = λ design clustering cluster of own. absurd (none_some _ (sym c.place.ensures.place ∙ c.in-None.is) (own_placed design clustering cluster c.args.self.now of c.args.net own))

pub returns-in-Some-clause-other : goal.returns-in-Some-clause-other
returns-in-Some-clause-other c = λ none.
    let place : slot_of c.args.self.now.waves c.args.net ≡ Some c.in-Some.slot = sym c.place.ensures.place ∙ c.in-Some.is in
    c.step_at.ensures.none (omega (arith, other_still c.args.self.now c.args.net c.in-Some.slot place none))

pub returns-in-Some-clause-idle : goal.returns-in-Some-clause-idle
returns-in-Some-clause-idle c = λ none.
    let place : slot_of c.args.self.now.waves c.args.net ≡ Some c.in-Some.slot = sym c.place.ensures.place ∙ c.in-Some.is in
    c.step_at.ensures.idle (omega (arith, other_still c.args.self.now c.args.net c.in-Some.slot place none))
