use Rattle.std.proofs.Common.{◌≡◌, ℕ, ◌+◌, List, length, Vec, Global, sym, ap, subst, ◌∙◌, arith}
use Rattle.cmb_engine.specs.declared.group.Member.{Member}
use Rattle.cmb_engine.proofs.GroupFacts.{AreMembersBelow, members-more, members-same, members-whole}
use Rattle.cmb_engine.proofs.flops.members_of.Goals as goal
use Rattle.cmb_engine.proofs.flops.members_of.Goals.{in-Some+in_ok-push, in_default}

pub loop-slot-init : goal.loop-slot-init
loop-slot-init c =
    subst (λ (members : List Member). AreMembersBelow c.args.cells.now 0 members) (sym c.new-members.ensures.items)
    (record { all = λ slot clock pin below flop. absurd (omega arith); each = λ k d below. absurd (omega arith) })

pub loop-slot-preserved : goal.loop-slot-preserved
loop-slot-preserved c =
    elim c.match-flop.branch [
      | in-Some+in_ok-push w ↦
          subst (λ (members : List Member). AreMembersBelow c.args.cells.now (c.loop-slot.slot + 1) members)
          (sym (ap (λ (v : Vec Member Global). v.items) w.members-is ∙ w.in_ok-push.ensures.items))
          (members-more c.args.cells.now c.loop-slot.slot c.loop-slot.members.items c.loop-slot.invariant w.in-Some.clock w.in-Some.pin w.in-Some.ensures)
      | in_default w ↦
          subst (λ (members : List Member). AreMembersBelow c.args.cells.now (c.loop-slot.slot + 1) members) (sym (ap (λ (v : Vec Member Global). v.items) w.members-is))
          (members-same c.args.cells.now c.loop-slot.slot c.loop-slot.members.items c.loop-slot.invariant w.in_default.ensures)
    ]

pub returns : goal.returns
returns c =
    let whole : c.loop-slot.slot ≡ length c.args.cells.now = omega (arith, c.len-slot-end.ensures) in
    members-whole c.args.cells.now c.loop-slot.members.items c.sort_by_key.new.self.items
    (subst (λ (n : ℕ). AreMembersBelow c.args.cells.now n c.loop-slot.members.items) whole c.loop-slot.invariant)
    c.in_ok-sort_by_key.ensures.permutation
