use Rattle.std.proofs.Common.{◌≡◌, ◌+◌, ◌*◌, List, ℕ, length, MatchOption, ap, subst, arith}
use Rattle.cmb_engine.specs.Inner.Bits.{HasNone, IsNext}
use Rattle.cmb_engine.specs.Inner.Flags.{IsNextFlag, NoFlags}
use Rattle.cmb_engine.specs.Inner.Walks.{walked}
use Rattle.cmb_engine.proofs.MarkFacts.{marks-none, marks-room, marks-in_word}
use Rattle.cmb_engine.proofs.marks.Marks.next.Goals as goal

pub at-requires : goal.at-requires
at-requires c =
    let room = marks-room c.self.inside.low c.self.inside.high c.self.invariant (c.next_at.new.walk.word + 1) c.in_ok-k.k c.in_ok-k.ensures in
    omega (arith, room, c.next_at.ensures.small)

pub returns-in_err-k : goal.returns-in_err-k
returns-in_err-k c =
    let above : NoFlags c.self.inside.high (c.args.walk.now.word + 1) (length c.self.inside.high) =
    subst (λ n. NoFlags c.self.inside.high n (length c.self.inside.high))
    (ap (λ w. w.word + 1) c.in_default.ensures.next.1) c.in_err-k.ensures in
    let none : HasNone c.args.self.now (walked c.args.walk.now) (64 * length c.args.self.now) =
    subst (λ (s : List ℕ). HasNone s (walked c.args.walk.now) (64 * length s)) c.self.view_is
    (marks-none c.self.inside.low c.self.inside.high c.self.invariant c.args.walk.now.word (walked c.args.walk.now) c.in_default.ensures.next.0 above) in
    rw c.from_residual.ensures none

pub returns : goal.returns
returns c =
    let above : IsNextFlag c.self.inside.high (c.args.walk.now.word + 1) c.in_ok-k.k =
    subst (λ n. IsNextFlag c.self.inside.high n c.in_ok-k.k)
    (ap (λ w. w.word + 1) c.in_default.ensures.next.1) c.in_ok-k.ensures in
    subst
    (λ (s : List ℕ). MatchOption c.next_at-2.result (HasNone s (walked c.args.walk.now) (64 * length s))
    (λ found. IsNext s (walked c.args.walk.now) found × (walked c.next_at-2.new.walk ≡ found + 1)))
    c.self.view_is
    (marks-in_word c.self.inside.low c.self.inside.high c.self.invariant c.args.walk.now.word (walked c.args.walk.now) c.in_ok-k.k
    (omega (arith, c.args.walk.now.walk.place_fits)) c.in_default.ensures.next.0 above c.at.result c.next_at-2.new.walk c.at.ensures.word c.at.ensures.walked
    c.next_at-2.result c.next_at-2.ensures.next c.next_at-2.ensures.empty)
