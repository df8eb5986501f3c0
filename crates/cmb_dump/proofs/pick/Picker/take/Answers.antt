use Rattle.std.proofs.Common.{length, refl, subst, sym}
use Rattle.std.proofs.lemmas.Result.{on_ok_weaker}
use Rattle.cmb_words.specs.Changes.{RisesWithin}
use Rattle.cmb_dump.specs.Inner.Picks.{Picker}
use Rattle.cmb_dump.proofs.PickFacts.{picked_taken}
use Rattle.cmb_dump.proofs.pick.Picker.take.Goals as goal

pub returns-clause-taken : goal.returns-clause-taken
returns-clause-taken c =
    let own = c.self.inside in
    let rises = subst (λ (p : Picker). RisesWithin 0 p.count c.args.changed.now) (sym c.self.view_is) c.requires in
    on_ok_weaker c.pick.result (λ is. picked_taken (length own.places.items) own.nets.now own.places.items c.self.invariant.among c.self.invariant.placed
    _ _ c.args.changed.now c.pick.new.picked.items c.deref.ensures.value refl rises is) c.pick.ensures
