use Rattle.std.proofs.Common.{◌≡◌, ◌∙◌, ◌↔◌, ℕ, ◌<◌, ◌≤◌, Bool, true, false, List, [], length, map, get_or, ap, arith, refl, subst, sym}
use Rattle.std.specs.Prelude.{Contains}
use Rattle.std.proofs.lemmas.Option.{slice_get_read}
use Rattle.cmb_design_model.specs.Design.{Design}
use Rattle.cmb_engine.specs.Crossings.{IsCrossing}
use Rattle.cmb_engine.specs.Shares.{IsDriven, is_told}
use Rattle.cmb_graph_partition.specs.declared.shares.Share.{Share}
use Rattle.cmb_shares.proofs.OpeningFacts.{marks-at}
use Rattle.cmb_shares.proofs.opening.open_engine.Goals as goal

pub returns : goal.returns
returns c =
    let shares = c.args.partition.now.shares.items in
    let s : Share = c.index.result.now in
    let at = slice_get_read shares (length shares) c.args.number s refl c.requires.number c.index.ensures in
    let first = c.in_ok-engine.ensures in
    let then' = c.in_ok-engine-2.ensures in
    let engine = c.in_ok-engine-2.engine in
    let marked : c.in_ok-engine.engine.driven ≡ get_or (map (λ (x : Share). x.driven.items) shares) c.args.number [] =
    first.driven ∙ c.deref-3.ensures.value ∙ sym (marks-at shares c.args.number s at) in
    record {
      engaged = then'.design ∙ first.design;
      drives = then'.driven ∙ marked;
      exports =
          subst (λ (l : List Bool). (net : ℕ) → Contains engine.exports net ↔ (IsDriven l net × IsCrossing c.args.design.now c.args.partition.now.crossing.items net)) marked
          (subst (λ (d : Design). (net : ℕ) → Contains engine.exports net ↔ (IsDriven c.in_ok-engine.engine.driven net × IsCrossing d c.args.partition.now.crossing.items net)) first.design
          (subst (λ (x : List Bool). (net : ℕ) → Contains engine.exports net ↔ (IsDriven c.in_ok-engine.engine.driven net × IsCrossing c.in_ok-engine.engine.design x net)) c.deref-5.ensures.value then'.exports));
      told = λ net within own shown.
          let marked = ap (λ (l : List Bool). get_or l net false) c.deref-2.ensures.value ∙ c.in_ok-marks.ensures.marked net (omega (arith, within, c.len.ensures)) shown in
          let mine = ap (λ (l : List ℕ). get_or l net 0) c.deref.ensures.value ∙ own in
          let is = c.in_ok-told.ensures.told net (subst (λ (l : List ℕ). net < length l) (sym c.deref.ensures.value) within) mine marked in
          subst (λ (told : List ℕ). is_told told net ≡ true) (sym then'.told) (first.told net (ap (λ (l : List Bool). get_or l net false) c.deref-4.ensures.value ∙ is));
      begun = then'.clock ∙ first.clock;
      some = subst (λ n. 2 ≤ n) c.width-width.ensures.value c.width-width.ensures.some;
      most = subst (λ n. n < 63) c.width-width.ensures.value c.width-width.ensures.most;
    }
