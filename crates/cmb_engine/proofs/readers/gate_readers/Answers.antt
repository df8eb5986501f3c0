use Rattle.std.proofs.Common.{◌≡◌, ◌<◌, ℕ, length, List, ◌++◌, map, take, drop, arith, sym, subst, ◌∙◌, ap}
use Rattle.std.proofs.lemmas.List.{length-map, take_at}
use Rattle.smallvec.specs.SmallVec.{SmallVec}
use Rattle.cmb_engine.specs.Inner.Cells.{AreBelow, IsListed, is_gate}
use Rattle.cmb_engine.proofs.ReaderFacts.{listed-more, lists-all}
use Rattle.cmb_engine.proofs.readers.gate_readers.Goals as goal

pub loop-net-preserved : goal.loop-net-preserved
loop-net-preserved c =
    let items : List (SmallVec ℕ) → List (List ℕ) = λ vs. map (λ (v : SmallVec ℕ). v.items) vs in
    let before = c.deref_mut.ensures.value in
    let len : length c.list_gate.new.readers ≡ length c.args.cells.now = c.list_gate.ensures.len ∙ ap length before ∙ c.loop-net.invariant.len in
    let whole : take c.loop-net.lists.len (c.list_gate.new.readers ++ drop (length c.list_gate.new.readers) c.loop-net.lists.items) ≡ c.list_gate.new.readers =
    take_at c.list_gate.new.readers (drop (length c.list_gate.new.readers) c.loop-net.lists.items) c.loop-net.lists.len
    (omega (arith, ap length before, c.deref_mut.ensures.len, c.list_gate.ensures.len)) in
    record {
      len = ap length whole ∙ len;
      within = subst (λ (vs : List (SmallVec ℕ)). AreBelow (length c.args.cells.now) (items vs)) (sym whole)
          (c.in_ok-list_gate.ensures.within (subst (λ (vs : List (SmallVec ℕ)). AreBelow (length c.args.cells.now) (items vs)) (sym before) c.loop-net.invariant.within));
      listed = λ m place small such read.
          subst (λ (vs : List (SmallVec ℕ)). IsListed (items vs) place m) (sym whole)
          (listed-more is_gate c.args.cells.now (items c.loop-net.lists.items) (items c.list_gate.new.readers) c.loop-net.net c.loop-net.invariant.listed
          (λ p number h. c.in_ok-list_gate.ensures.kept p number (subst (λ (vs : List (SmallVec ℕ)). IsListed (items vs) p number) (sym before) h))
          c.in_ok-list_gate.ensures.listed m place small such read);
    }

pub list_gate-requires-clause-pins : goal.list_gate-requires-clause-pins
list_gate-requires-clause-pins c = λ k d h.
    let within : c.loop-net.net < length c.args.cells.now = omega (arith, c.loop-net-test.true, c.len-net-end.ensures) in
    omega (arith, c.requires.pins c.loop-net.net within k d h, ap length c.deref_mut.ensures.value, c.loop-net.invariant.len)

pub returns : goal.returns
returns c =
    lists-all is_gate c.args.cells.now (map (λ (v : SmallVec ℕ). v.items) c.loop-net.lists.items) c.loop-net.net (omega (arith, c.loop-net-test.false, c.len-net-end.ensures))
    (length-map c.loop-net.lists.items (λ (v : SmallVec ℕ). v.items) ∙ c.loop-net.invariant.len) c.loop-net.invariant.within c.loop-net.invariant.listed
