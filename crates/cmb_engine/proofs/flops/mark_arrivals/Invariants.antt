use Rattle.std.proofs.Common.{◌≡◌, ℕ, ◌+◌, ◌-◌, ◌<◌, ◌≤◌, true, false, List, length, get_or}
use Rattle.std.specs.Prelude.{All, Contains}
use Rattle.cmb_engine.specs.Inner.Bits.{has}
use Rattle.cmb_engine.specs.Inner.Cells.{Cell}
use Rattle.cmb_engine.specs.Inner.Circuits.{IsGroup, IsMarkedOrRests}
use Rattle.cmb_engine.specs.Inner.Orders.{is_marked}
use Rattle.cmb_engine.specs.Rows.{arrives_by}
use Rattle.cmb_engine.specs.Inner.Words.{levels_of}
use Rattle.cmb_engine.specs.declared.group.Group.{Group}
use Rattle.cmb_engine.proofs.flops.mark_arrivals.Given as goal

abbrev pub invariant-loop-group : goal.invariant-loop-group
invariant-loop-group l = record {
  room : length l.marks ≡ length l.initial.marks;
  kept : (m : ℕ) → has l.initial.marks m ≡ true → has l.marks m ≡ true;
  arrivals : (cells : List Cell) → All (IsGroup cells) l.groups → (k : ℕ) (d : Group) (slot place : ℕ) → k < l.group-index → Contains (get_or l.groups k d).flops.items slot → l.first ≤ place → place < 64
      → arrives_by (get_or l.groups k d).clock (get_or l.groups k d).delay (l.to + place - 64) ≡ true
      → IsMarkedOrRests (is_marked l.order l.marks) (levels_of l.words) l.first cells slot;
  closed : l.opened ≡ false → (k : ℕ) (d : Group) (place : ℕ) → k < l.group-index → l.first ≤ place → place < 64
      → arrives_by (get_or l.groups k d).clock (get_or l.groups k d).delay (l.to + place - 64) ≡ true
      → place < l.first + (get_or l.groups k d).delay;
}
