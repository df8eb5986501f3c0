use Rattle.std.proofs.Common.{◌+◌, ◌<◌, ◌≤◌, ap, subst, sym}
use Rattle.cmb_design_model.specs.Exact.{nets_of}
use Rattle.cmb_words.specs.Changes.{IsWindow}
use Rattle.cmb_design_model.specs.Value.{value}
use Rattle.cmb_engine.specs.Shares.{IsGiven, IsOwed, EachChanges, ShareEngine, TellsAll, TellsThose}
use Rattle.cmb_engine.proofs.RoleFacts.{share-tells}
use Rattle.cmb_engine.proofs.share.ShareEngine.advance.Goals as goal

pub returns-in-Ok-clause-tells : goal.returns-in-Ok-clause-tells
returns-in-Ok-clause-tells c =
    subst (λ (e : ShareEngine). TellsAll (IsOwed e) (value e.design) e.clock c.advance.new.self.clock c.advance.new.changed.items) c.self.view_is
    (share-tells c.self.inside.design.now c.self.inside.circuit.wiring.roles.items c.self.inside.circuit.wanted c.self.inside.state.clock c.advance.new.self.clock c.advance.new.changed.items
    c.self.invariant.1.begun c.self.invariant.2 c.in-Ok.ensures.changes c.in-Ok.ensures.tells)

pub returns-in-Ok-clause-told : goal.returns-in-Ok-clause-told
returns-in-Ok-clause-told c = ap (λ (e : ShareEngine). e.told) c.self.view_is

pub advance-requires-clause-given : goal.advance-requires-clause-given
advance-requires-clause-given c =
    let Told : ShareEngine → Type 0 = λ e. TellsThose (IsGiven e.design e.driven) (value e.design) e.clock c.args.upto c.args.given.now in
    let told = subst Told (sym c.self.view_is) c.requires.given in
    let given = c.self.invariant.2.gifts in
    record { words = λ one here gives. told.words one here (given one.net gives); others = λ net gives none. told.others net (given net gives) none }

pub advance-requires-clause-later : goal.advance-requires-clause-later
advance-requires-clause-later c = subst (λ (e : ShareEngine). e.clock < c.args.upto) (sym c.self.view_is) c.requires.later

pub advance-requires-clause-short : goal.advance-requires-clause-short
advance-requires-clause-short c = subst (λ (e : ShareEngine). c.args.upto ≤ e.clock + e.width) (sym c.self.view_is) c.requires.short

pub advance-requires-clause-within : goal.advance-requires-clause-within
advance-requires-clause-within c = subst (λ (e : ShareEngine). c.args.upto ≤ e.design.horizon) (sym c.self.view_is) c.requires.within

pub returns-in-Ok-clause-design : goal.returns-in-Ok-clause-design
returns-in-Ok-clause-design c = ap (λ (e : ShareEngine). e.design) c.self.view_is

pub returns-in-Ok-clause-driven : goal.returns-in-Ok-clause-driven
returns-in-Ok-clause-driven c = ap (λ (e : ShareEngine). e.driven) c.self.view_is

pub returns-in-Ok-clause-width : goal.returns-in-Ok-clause-width
returns-in-Ok-clause-width c = ap (λ (e : ShareEngine). e.width) c.self.view_is

pub returns-in-Ok-clause-window : goal.returns-in-Ok-clause-window
returns-in-Ok-clause-window c =
    subst (λ (e : ShareEngine). IsWindow (nets_of e.design) e.design.horizon e.clock c.advance.new.self.clock c.advance.new.changed.items) c.self.view_is c.in-Ok.ensures.window

pub invariant_of-result : goal.invariant_of-result
invariant_of-result c = (c.self.invariant.0, c.in-Ok.ensures.state, c.self.invariant.2, c.self.invariant.3)

pub returns-in-Ok-clause-changes : goal.returns-in-Ok-clause-changes
returns-in-Ok-clause-changes c = subst (λ (e : ShareEngine). EachChanges e.clock c.advance.new.self.clock c.advance.new.changed.items) c.self.view_is c.in-Ok.ensures.changes
