use Rattle.std.proofs.Common.{◌+◌, ◌*◌, ◌<◌, List, ℕ, length, sym, subst, refl, arith}
use Rattle.cmb_engine.specs.Inner.Batches.{IsNextWord}
use Rattle.cmb_engine.specs.Inner.Bits.{HasNone}
use Rattle.cmb_engine.proofs.MarkFacts.{marks-empty, marks-end, marks-next_word, marks-room}
use Rattle.cmb_engine.proofs.marks.Marks.next_word.Goals as goal

pub overflow_mul-base : goal.overflow_mul-base
overflow_mul-base c =
    let room : c.in_ok-word.word < length c.self.inside.low = marks-room c.self.inside.low c.self.inside.high c.self.invariant c.args.from.now c.in_ok-word.word c.in_ok-word.ensures in
    omega (arith, room, c.len-words.ensures.value, c.len-words.ensures.small)

pub returns-in_err-word : goal.returns-in_err-word
returns-in_err-word c =
    let none : HasNone c.args.self.now (64 * c.args.from.now) c.args.bound =
    subst (λ (s : List ℕ). HasNone s (64 * c.args.from.now) c.args.bound) c.self.view_is
    (marks-end c.self.inside.low c.self.inside.high c.self.invariant c.args.from.now c.args.bound c.in_err-word.ensures) in
    rw c.from_residual.ensures none

pub returns-then-base-bound : goal.returns-then-base-bound
returns-then-base-bound c =
    subst (λ (s : List ℕ). HasNone s (64 * c.args.from.now) c.args.bound) c.self.view_is
    (marks-empty c.self.inside.low c.self.inside.high c.self.invariant c.args.from.now c.in_ok-word.word c.args.bound c.in_ok-word.ensures.least c.if-base-bound.true)

pub returns : goal.returns
returns c = (
  subst (λ (s : List ℕ). IsNextWord s c.args.from.now (c.in_ok-word.word + 1) (64 * c.in_ok-word.word) c.word-places.result) c.self.view_is
      (subst (λ (w : ℕ). IsNextWord c.self.inside.low c.args.from.now (c.in_ok-word.word + 1) (64 * c.in_ok-word.word) w) (sym c.word-places.ensures)
      (marks-next_word c.self.inside.low c.self.inside.high c.self.invariant c.args.from.now c.in_ok-word.word (c.in_ok-word.word + 1) c.in_ok-word.ensures
      refl)),
  c.if-base-bound.false,
)
