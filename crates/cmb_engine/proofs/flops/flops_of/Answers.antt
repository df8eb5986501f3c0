use Rattle.std.proofs.Common.{◌≡◌, ℕ, List, length, sym, ap, subst, arith}
use Rattle.std.specs.Prelude.{All}
use Rattle.cmb_engine.specs.Inner.Circuits.{AreMembers}
use Rattle.cmb_engine.specs.Inner.Cells.{Flop, cell_at}
use Rattle.cmb_engine.specs.declared.group.Member.{Member}
use Rattle.cmb_engine.proofs.GroupFacts.{AreGrouped, grouped-more, flops-whole}
use Rattle.cmb_engine.proofs.flops.flops_of.Goals as goal

pub loop-member-init : goal.loop-member-init
loop-member-init c = record {
  grouped = λ k d below. absurd (omega arith);
  each = λ k d below. absurd (omega (arith, ap length c.new-groups.ensures.items));
}

pub loop-member-preserved : goal.loop-member-preserved
loop-member-preserved c =
    let right : AreMembers c.args.cells.now c.in_ok-members.members.items = c.in_ok-members.ensures in
    let items : c.as_slice-member-items.result.now ≡ c.in_ok-members.members.items = c.as_slice-member-items.ensures.value in
    let none : Member = record { clock = record { first = 0; period = 0 }; pin = record { net = 0; delay = 0 }; slot = 0 } in
    let each : All (λ member. cell_at c.args.cells.now member.slot ≡ Flop member.clock member.pin) c.as_slice-member-items.result.now =
    subst (λ (members : List Member). All (λ member. cell_at c.args.cells.now member.slot ≡ Flop member.clock member.pin) members) (sym items) right.each in
    record {
      grouped = grouped-more c.as_slice-member-items.result.now c.loop-member.member-index c.loop-member.groups.items c.push_member.new.groups.items none
          c.loop-member-test.true c.in_ok-push_member.ensures.kept c.in_ok-push_member.ensures.listed c.loop-member.invariant.grouped;
      each = c.in_ok-push_member.ensures.each c.args.cells.now (each c.loop-member.member-index none c.loop-member-test.true) c.loop-member.invariant.each;
    }

pub returns : goal.returns
returns c =
    let items : c.as_slice-member-items.result.now ≡ c.in_ok-members.members.items = c.as_slice-member-items.ensures.value in
    let whole : c.loop-member.member-index ≡ length c.as_slice-member-items.result.now = omega arith in
    flops-whole c.args.cells.now c.in_ok-members.members.items c.loop-member.groups.items c.in_ok-members.ensures
    (subst (λ (members : List Member). AreGrouped members (length members) c.loop-member.groups.items) items
    (subst (λ (n : ℕ). AreGrouped c.as_slice-member-items.result.now n c.loop-member.groups.items) whole c.loop-member.invariant.grouped))
    c.loop-member.invariant.each
