use Rattle.std.proofs.Common.{sym, ap, subst, ◌∙◌}
use Rattle.cmb_design_model.specs.Design.{Design}
use Rattle.cmb_design_model.specs.Exact.{nets_of}
use Rattle.cmb_design_model.specs.Value.{value}
use Rattle.cmb_words.specs.Changes.{Tells}
use Rattle.cmb_engine.specs.Engines.{Engine}
use Rattle.cmb_engine.specs.Shares.{EachChanges}
use Rattle.cmb_engine.proofs.ShareFacts.{all-told, drives-on, none-given}
use Rattle.cmb_engine.proofs.engine.Engine.advance.Goals as goal

pub advance-requires-clause-given : goal.advance-requires-clause-given
advance-requires-clause-given c = none-given c.self.inside.share (value c.self.inside.share.design) c.self.inside.share.clock c.args.upto c.self.invariant.drives

pub invariant_of-result : goal.invariant_of-result
invariant_of-result c = record {
  drives = drives-on c.self.inside.share c.in-Ok.share c.in-Ok.ensures.design c.in-Ok.ensures.driven c.in-Ok.ensures.told c.self.invariant.drives;
  width = c.self.invariant.width ∙ sym c.in-Ok.ensures.width;
  horizon = c.self.invariant.horizon ∙ ap (λ (design : Design). design.horizon) (sym c.in-Ok.ensures.design);
}

pub returns-in-Ok-clause-tells : goal.returns-in-Ok-clause-tells
returns-in-Ok-clause-tells c =
    subst (λ (e : Engine). Tells (value e.design) (nets_of e.design) e.clock c.in-Ok.share.clock c.advance.new.changed.items) c.self.view_is
    (all-told c.self.inside.share c.self.inside.share.clock c.in-Ok.share.clock c.advance.new.changed.items c.self.invariant.drives c.in-Ok.ensures.tells)

pub returns-in-Ok-clause-changes : goal.returns-in-Ok-clause-changes
returns-in-Ok-clause-changes c = subst (λ (e : Engine). EachChanges e.clock c.in-Ok.share.clock c.advance.new.changed.items) c.self.view_is c.in-Ok.ensures.changes
