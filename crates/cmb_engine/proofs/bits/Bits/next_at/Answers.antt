use Rattle.std.proofs.Common.{◌≡◌, ◌+◌, ◌*◌, List, ℕ, get_or, subst, refl, sym, ◌∙◌, arith, rules}
use Rattle.std.proofs.lemmas.List.{get_or_read}
use Rattle.cmb_engine.specs.Inner.Bits.{HasNone, IsNext, IsAhead}
use Rattle.cmb_engine.specs.Inner.Walks.{walked}
use Rattle.cmb_engine.proofs.WalkFacts.{walk-none, walk-some, walk-empty, walk-past}
use Rattle.cmb_engine.proofs.bits.Bits.next_at.Goals as goal

pub returns-then-word-len-clause-next : goal.returns-then-word-len-clause-next
returns-then-word-len-clause-next c = (
  subst (λ (s : List ℕ). HasNone s (walked c.args.walk.now) (64 * c.args.walk.now.word + 64)) c.self.view_is
      (walk-past c.self.inside.words.items c.args.walk.now.word c.args.walk.now.place (omega (arith, c.if-word-len.true, c.len.ensures))),
  refl,
)

pub returns-in_err-place-clause-next : goal.returns-in_err-place-clause-next
returns-in_err-place-clause-next c =
    let none : HasNone c.args.self.now (walked c.args.walk.now) (64 * c.args.walk.now.word + 64) =
    subst (λ (s : List ℕ). HasNone s (walked c.args.walk.now) (64 * c.args.walk.now.word + 64)) c.self.view_is
    (walk-none c.self.inside.words.items c.args.walk.now.word c.args.walk.now.place c.args.walk.now.ahead c.index.result.now
    (get_or_read c.self.inside.words.items c.args.walk.now.word c.index.result.now (omega (arith, c.if-word-len.false, c.len.ensures)) c.index.ensures 0)
    c.args.walk.now.walk.ahead_is c.in_err-place.ensures.lowest) in
    rw c.from_residual.ensures (none, refl)

pub returns-in_err-place-clause-empty : goal.returns-in_err-place-clause-empty
returns-in_err-place-clause-empty c = λ begin.
    let first : c.args.walk.now.place ≡ 0 = omega (arith, begin) in
    let ahead : IsAhead 0 c.args.walk.now.ahead = subst (λ (p : ℕ). IsAhead p c.args.walk.now.ahead) first c.args.walk.now.walk.ahead_is in
    let zero : c.index.result.now ≡ 0 = walk-empty c.args.walk.now.ahead c.index.result.now ahead (search rules) c.in_err-place.ensures.lowest in
    let none : get_or c.args.self.now c.args.walk.now.word 0 ≡ 0 =
    subst (λ (s : List ℕ). get_or s c.args.walk.now.word 0 ≡ 0) c.self.view_is
    (sym (get_or_read c.self.inside.words.items c.args.walk.now.word c.index.result.now (omega (arith, c.if-word-len.false, c.len.ensures)) c.index.ensures 0) ∙ zero) in
    rw c.from_residual.ensures none

pub returns-clause-next : goal.returns-clause-next
returns-clause-next c = (
  subst (λ (s : List ℕ). IsNext s (walked c.args.walk.now) (64 * c.args.walk.now.word + c.in_ok-place.place)) c.self.view_is
      (walk-some c.self.inside.words.items c.args.walk.now.word c.args.walk.now.place c.args.walk.now.ahead c.index.result.now
      (get_or_read c.self.inside.words.items c.args.walk.now.word c.index.result.now (omega (arith, c.if-word-len.false, c.len.ensures)) c.index.ensures 0)
      c.args.walk.now.walk.ahead_is c.in_ok-place.place c.args.walk.now.walk.place_fits c.in_ok-place.ensures.lowest),
  c.behind.ensures.walked,
)
