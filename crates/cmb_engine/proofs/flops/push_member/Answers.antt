use Rattle.std.proofs.Common.{◌≡◌, ℕ, ◌-◌, List, [], ◌∷◌, ◌++◌, length, get_or, sym, ap, ap₂, subst, ◌∙◌, arith}
use Rattle.std.specs.Prelude.{Contains}
use Rattle.std.proofs.lemmas.List.Elements.{Contains-push}
use Rattle.cmb_engine.specs.Inner.Circuits.{IsInGroup}
use Rattle.cmb_engine.specs.declared.group.Group.{Group}
use Rattle.cmb_engine.proofs.GroupFacts.{group-added, group-kept, group-listed, group-new, groups-kept}
use Rattle.cmb_engine.proofs.flops.push_member.Goals as goal

pub returns-in_ok-push-clause-kept : goal.returns-in_ok-push-clause-kept
returns-in_ok-push-clause-kept c = λ clock delay slot h.
    group-kept c.args.groups.now.items (c.len-last.result - 1) c.index_mut.result.now c.push.new.self
    (omega (arith, c.is_of_last.ensures.some c.if-is_of_last.true, c.as_slice.ensures, c.len-last.ensures))
    c.index_mut.ensures.value c.push.ensures.clock c.push.ensures.delay c.args.member.slot c.in_ok-push.ensures.flops clock delay slot h

pub returns-in_ok-push-clause-listed : goal.returns-in_ok-push-clause-listed
returns-in_ok-push-clause-listed c =
    let at : length c.as_slice.result.now - 1 ≡ c.len-last.result - 1 = omega (arith, c.as_slice.ensures, c.len-last.ensures) in
    let same = c.is_of_last.ensures.same c.if-is_of_last.true c.index_mut.result.now in
    let last : get_or c.as_slice.result.now (length c.as_slice.result.now - 1) c.index_mut.result.now ≡ get_or c.args.groups.now.items (c.len-last.result - 1) c.index_mut.result.now =
    ap₂ (λ (groups : List Group) (n : ℕ). get_or groups n c.index_mut.result.now) c.as_slice.ensures.value at in
    group-listed c.args.groups.now.items (c.len-last.result - 1) c.index_mut.result.now c.push.new.self
    (omega (arith, c.is_of_last.ensures.some c.if-is_of_last.true, c.as_slice.ensures, c.len-last.ensures))
    c.index_mut.ensures.value c.push.ensures.clock c.push.ensures.delay c.args.member.slot c.in_ok-push.ensures.flops c.args.member.clock c.args.member.pin.delay
    (sym (ap (λ (g : Group). g.clock) last) ∙ same.0) (sym (ap (λ (g : Group). g.delay) last) ∙ same.1)

pub returns-in_ok-push-clause-each : goal.returns-in_ok-push-clause-each
returns-in_ok-push-clause-each c = λ cells flop are.
    let at : length c.as_slice.result.now - 1 ≡ c.len-last.result - 1 = omega (arith, c.as_slice.ensures, c.len-last.ensures) in
    let same = c.is_of_last.ensures.same c.if-is_of_last.true c.index_mut.result.now in
    let last : get_or c.as_slice.result.now (length c.as_slice.result.now - 1) c.index_mut.result.now ≡ c.index_mut.result.now =
    ap₂ (λ (groups : List Group) (n : ℕ). get_or groups n c.index_mut.result.now) c.as_slice.ensures.value at ∙ sym c.index_mut.ensures.value in
    let clocks : c.index_mut.result.now.clock ≡ c.args.member.clock = sym (ap (λ (g : Group). g.clock) last) ∙ same.0 in
    let delays : c.index_mut.result.now.delay ≡ c.args.member.pin.delay = sym (ap (λ (g : Group). g.delay) last) ∙ same.1 in
    groups-kept c.args.groups.now.items (c.len-last.result - 1) c.index_mut.result.now c.push.new.self
    (omega (arith, c.is_of_last.ensures.some c.if-is_of_last.true, c.as_slice.ensures, c.len-last.ensures))
    c.index_mut.ensures.value c.push.ensures.clock c.push.ensures.delay c.args.member.slot c.in_ok-push.ensures.flops cells c.args.member.pin.net c.in_ok-push.ensures.sources
    (rw (clocks, delays) flop) are

pub returns-in_ok-push-3-clause-kept : goal.returns-in_ok-push-3-clause-kept
returns-in_ok-push-3-clause-kept c = λ clock delay slot h.
    subst (IsInGroup clock delay slot) (sym c.in_ok-push-3.ensures.items) (group-added c.args.groups.now.items _ clock delay slot h)

pub returns-in_ok-push-3-clause-listed : goal.returns-in_ok-push-3-clause-listed
returns-in_ok-push-3-clause-listed c =
    let items : c.push-else-is_of_last.new.self.flops.items ≡ c.args.member.slot ∷ [] = c.in_ok-push-2.ensures.flops ∙ ap (λ (xs : List ℕ). xs ++ c.args.member.slot ∷ []) c.new-group.ensures.flops in
    rw (sym (c.push-else-is_of_last.ensures.clock ∙ c.new-group.ensures.clock), sym (c.push-else-is_of_last.ensures.delay ∙ c.new-group.ensures.delay))
    (subst (IsInGroup c.push-else-is_of_last.new.self.clock c.push-else-is_of_last.new.self.delay c.args.member.slot) (sym c.in_ok-push-3.ensures.items)
    (group-new c.args.groups.now.items c.push-else-is_of_last.new.self c.args.member.slot
    (subst (λ (xs : List ℕ). Contains xs c.args.member.slot) (sym items) (Contains-push [] c.args.member.slot))))
