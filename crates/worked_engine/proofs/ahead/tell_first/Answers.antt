use Rattle.std.proofs.Common.{◌≡◌, ◌∙◌, ℕ, ◌<◌, Bool, true, false, List, [], ◌∷◌, subst, sym, arith}
use Rattle.std.specs.Prelude.{IfSome, Option}
use Rattle.cmb_design_model.specs.Design.{Design}
use Rattle.cmb_design_model.specs.Timing.{delay}
use Rattle.cmb_engine.specs.Crossings.{AreWithinLookahead, IsCrossing, IsWithinLookahead}
use Rattle.cmb_engine.specs.Windows.{Windows, end_of}
use Rattle.worked_engine.proofs.ahead.tell_first.Goals as goal

pub tell_ahead-requires-clause-ahead : goal.tell_ahead-requires-clause-ahead
tell_ahead-requires-clause-ahead c =
    let design = c.args.design.now in
    let crossing : List Bool = true ∷ false ∷ true ∷ [] in
    let windows : Windows = c.in-Some.windows in
    let of : (P : Windows → Type 0) → IfSome c.in_ok-windows.field-0 P → P windows = λ P h. subst (λ (o : Option Windows). IfSome o P) c.in-Some.is h in
    let horizon : windows.horizon ≡ design.horizon = of (λ w. w.horizon ≡ design.horizon) c.in_ok-windows.ensures.horizon in
    λ net there.
    subst (λ (d : Design). IsWithinLookahead d c.args.engine.now.clock c.end-upto.result net) (sym c.requires.design)
    (subst (λ n. IsWithinLookahead design n c.end-upto.result net) (sym c.requires.clock)
    (subst (λ n. IsWithinLookahead design 1 n net) (sym c.end-upto.ensures.value)
    (of (AreWithinLookahead design crossing) c.in_ok-windows.ensures.ahead net 1
    (subst (λ (d : Design). IsCrossing d crossing net) c.requires.design (c.requires.exports net there))
    (omega (arith, horizon, c.requires.horizon)))))

pub tell_ahead-requires-clause-soon : goal.tell_ahead-requires-clause-soon
tell_ahead-requires-clause-soon c =
    let design = c.args.design.now in
    let crossing : List Bool = true ∷ false ∷ true ∷ [] in
    let windows : Windows = c.in-Some.windows in
    let of : (P : Windows → Type 0) → IfSome c.in_ok-windows.field-0 P → P windows = λ P h. subst (λ (o : Option Windows). IfSome o P) c.in-Some.is h in
    λ net there.
    subst (λ (d : Design). delay d net 1 < c.args.engine.now.width) (sym c.requires.design)
    (subst (λ n. delay design net 1 < n) c.width-width.ensures.value
    (of (λ w. (one : ℕ) → IsCrossing design crossing one → delay design one 1 < c.width-width.result) c.in_ok-windows.ensures.soon net
    (subst (λ (d : Design). IsCrossing d crossing net) c.requires.design (c.requires.exports net there))))
