use Rattle.std.proofs.Common.{◌≡◌, ◌≤◌, ◌<◌, Option, IfSome, length, ap, arith, sym, ◌∙◌, subst}
use Rattle.cmb_wave.specs.Wave.{Piece, Wave}
use Rattle.cmb_wave.specs.Calls.{cut}
use Rattle.cmb_design_model.specs.Exact.{IsExactIn}
use Rattle.cmb_core_cluster.specs.Step.{wave_at}
use Rattle.cmb_core_cluster.proofs.AdvanceLemmas.{if_ok_map}
use Rattle.cmb_core_cluster.proofs.ExactFacts.{if_ok, placed_exact, sent_exact}
use Rattle.cmb_core_cluster.proofs.Inputs.{output_driven, output_slot_is, output_wave}
use Rattle.cmb_core_cluster.proofs.cluster.Cluster.post.Goals as goal

-- nothing of the wave was forgotten
whole : (c : goal.After-wave) → (wave_at c.args.self.now.waves c.args.net).base ≡ 0
whole c =
    let slot = c.driven_place.result in
    let there : slot < length c.args.self.now.processes = omega (arith, c.driven_place.ensures.there, c.wave.ensures.sound.paired) in
    sym (ap (λ (w : Wave). w.base) (output_wave c.args.self.now c.args.net slot c.driven_place.ensures.place)) ∙ c.wave.ensures.sound.whole slot there (output_driven c.args.self.now c.args.net slot c.driven_place.ensures.place)

is : (c : goal.After-wave) → c.wave.result.now ≡ wave_at c.args.self.now.waves c.args.net
is c = c.wave.ensures.wave ∙ output_wave c.args.self.now c.args.net c.driven_place.result c.driven_place.ensures.place

pub cut-requires-clause-known : goal.cut-requires-clause-known
cut-requires-clause-known c = rw (is c) c.requires.known

pub cut-requires-clause-kept : goal.cut-requires-clause-kept
cut-requires-clause-kept c = omega (arith, whole c, ap (λ (w : Wave). w.base) (is c))

pub returns-clause-cut : goal.returns-clause-cut
returns-clause-cut c = if_ok_map c.cut.result _ _ (λ piece e. e ∙ ap (λ w. cut w c.args.from) (is c.before)) c.cut.ensures.cut

pub returns-clause-idle : goal.returns-clause-idle
returns-clause-idle c = λ e. c.cut.ensures.idle (e ∙ sym (ap (λ w. w.clock) (is c.before)))

pub returns-clause-sent : goal.returns-clause-sent
returns-clause-sent c = λ design clustering cluster exact.
    let P : Option Piece → Type 0 = λ piece. IfSome piece (IsExactIn design) in
    let slot = c.driven_place.result in
    let low : (wave_at c.args.self.now.waves c.args.net).base ≤ c.args.from = omega (arith, whole c.before) in
    let wave = placed_exact design c.args.self.now.waves c.args.net slot exact.waves (output_slot_is c.args.self.now c.args.net slot c.driven_place.ensures.place) in
    if_ok c.cut.result _ P c.cut.ensures.cut (λ piece e. subst P (sym (e ∙ ap (λ w. cut w c.args.from) (is c.before))) (sent_exact design (wave_at c.args.self.now.waves c.args.net) wave c.args.from low c.requires.known))
