use Rattle.std.proofs.Common.{◌≡◌, ◌∙◌, ◌↔◌, ◌≤◌, ℕ, List, subst, sym}
use Rattle.std.specs.Prelude.{Contains, true}
use Rattle.cmb_design_model.specs.Design.{Design}
use Rattle.cmb_design_model.specs.Exact.{nets_of}
use Rattle.cmb_design_model.specs.Value.{value}
use Rattle.cmb_words.specs.Changes.{RisesWithin}
use Rattle.cmb_engine.specs.Crossings.{IsCrossing}
use Rattle.cmb_engine.specs.Shares.{IsDriven, IsOwed, TellsAll, is_told}
use Rattle.cmb_shares.specs.Inner.Runs.{driven_by}
use Rattle.cmb_shares.proofs.ToldFacts.{told-owned}
use Rattle.cmb_shares.proofs.simulator.Simulator.advance.Goals as goal

pub returns-clause-simulates : goal.returns-clause-simulates
returns-clause-simulates g c =
    let is = c.requires.simulates in
    let went = c.in-Ok.ensures in
    record {
      lawful = is.lawful;
      number = is.number;
      shares = is.shares;
      owners = is.owners;
      windows = is.windows;
      design = went.design ∙ is.design;
      driven = went.driven ∙ is.driven;
      width = subst (λ w. g.T.ShareRun.run.windows.width ≤ w) (sym went.width) is.width;
      told = λ net own shown. subst (λ (told : List ℕ). is_told told net ≡ true) (sym went.told) (is.told net own shown);
      exports = subst (λ (l : List ℕ). (net : ℕ) → Contains l net ↔ (IsDriven (driven_by g.T.ShareRun.run c.args.self.number) net × IsCrossing g.T.ShareRun.run.design g.T.ShareRun.run.crossing net)) (sym went.exports) is.exports;
    }

pub returns-clause-told : goal.returns-clause-told
returns-clause-told g c =
    let run = g.T.ShareRun.run in
    let is = c.requires.simulates in
    let went = c.in-Ok.ensures in
    let s = c.args.self in
    let changed = c.advance.new.changed.items in
    told-owned run s changed c.args.upto is
    (subst (λ (d : Design). TellsAll (IsOwed s.engine) (value d) s.engine.clock c.args.upto changed) is.design
    (subst (λ n. TellsAll (IsOwed s.engine) (value s.engine.design) s.engine.clock n changed) went.clock went.tells))
    (subst (λ (d : Design). RisesWithin 0 (nets_of d) changed) is.design went.window.nets)
