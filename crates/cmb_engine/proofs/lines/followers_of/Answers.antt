use Rattle.std.proofs.Common.{◌≡◌, ◌+◌, ◌<◌, ◌++◌, ◌∷◌, [], ℕ, List, length, map, get_or, set, take, subst, sym, ap, ◌∙◌, arith}
use Rattle.std.specs.Prelude.{replicate}
use Rattle.std.proofs.lemmas.Bool.{eqb-true}
use Rattle.std.proofs.lemmas.List.{length-map, nil_from_length, take_all, with_items_is}
use Rattle.std.proofs.lemmas.Result.{IfOk-weaker}
use Rattle.smallvec.specs.SmallVec.{SmallVec}
use Rattle.cmb_engine.specs.declared.cell.Pin.{Pin}
use Rattle.cmb_engine.specs.Inner.Lines.{AreFollowers}
use Rattle.cmb_engine.proofs.FollowerFacts.{followers-more, followers-none}
use Rattle.cmb_engine.proofs.lines.followers_of.Goals as goal

abbrev none : Pin
none = record { net = 0; delay = 0 }

abbrev lists_of : List (SmallVec ℕ) → List (List ℕ)
lists_of vs = map (λ (v : SmallVec ℕ). v.items) vs

pub push_reader-requires : goal.push_reader-requires
push_reader-requires c =
    let small = c.requires.nets c.loop-number.number none (omega arith) in
    omega (arith, small, c.loop-number.invariant.count, length-map c.loop-number.followers.items (λ (v : SmallVec ℕ). v.items), ap length c.deref_mut.ensures.value)

pub loop-number-init : goal.loop-number-init
loop-number-init c = followers-none c.args.nets _ c.in_ok-followers.ensures

pub loop-number-preserved : goal.loop-number-preserved
loop-number-preserved c =
    let i : ℕ = c.loop-number.number in
    let inside : i < length c.args.lines.now = omega arith in
    let place : ℕ = (get_or c.args.lines.now i none).net in
    let before : c.deref_mut.result.now ≡ c.loop-number.followers.items = c.deref_mut.ensures.value in
    let small : place < length (lists_of c.loop-number.followers.items) =
    omega (arith, c.requires.nets i none inside, c.loop-number.invariant.count) in
    let pushed : lists_of c.push_reader.new.readers ≡ set (lists_of c.loop-number.followers.items) place (get_or (lists_of c.loop-number.followers.items) place [] ++ i ∷ []) =
    c.in_ok-push_reader.ensures.lists ∙ ap (λ (vs : List (SmallVec ℕ)). set (lists_of vs) place (get_or (lists_of vs) place [] ++ i ∷ [])) before in
    let whole = with_items_is c.loop-number.followers c.push_reader.new.readers (c.push_reader.ensures.len ∙ c.deref_mut.ensures.len) in
    subst (λ (vs : List (SmallVec ℕ)). AreFollowers (take (i + 1) c.args.lines.now) c.args.nets (lists_of vs)) (sym whole)
    (followers-more c.args.lines.now i none inside c.args.nets (lists_of c.loop-number.followers.items) (lists_of c.push_reader.new.readers) small pushed c.loop-number.invariant)

pub returns-then-is_empty : goal.returns-then-is_empty
returns-then-is_empty c =
    let none_at_all : c.args.lines.now ≡ [] = nil_from_length c.args.lines.now (eqb-true (length c.args.lines.now) 0 (sym c.is_empty.ensures ∙ c.if-is_empty.true)) in
    IfOk-weaker c.empty.result (λ lists. lists ≡ replicate c.args.nets []) (λ lists. AreFollowers c.args.lines.now c.args.nets lists)
    (λ lists is. subst (λ (lines : List Pin). AreFollowers lines c.args.nets lists) (sym none_at_all) (followers-none c.args.nets lists is)) c.empty.ensures

pub returns : goal.returns
returns c =
    IfOk-weaker c.joined.result (λ lists. lists ≡ lists_of c.deref.result.now) (λ lists. AreFollowers c.args.lines.now c.args.nets lists)
    (λ lists is.
    subst (λ (ls : List (List ℕ)). AreFollowers c.args.lines.now c.args.nets ls) (ap lists_of (sym c.deref.ensures.value) ∙ sym is)
    (subst (λ (lines : List Pin). AreFollowers lines c.args.nets (lists_of c.loop-number.followers.items))
    (take_all c.loop-number.number c.args.lines.now (omega arith)) c.loop-number.invariant)) c.joined.ensures
