-- Nets as they are found.
use Rattle.std.specs.Prelude.{◌≡◌, ℕ, true, false, List, ◌++◌, length, count_by, slice_index_or, All, Contains}
use Rattle.cmb_netlist.specs.Netlist.{Netlist}
use Rattle.cmb_cone.specs.Closed.{IsClosed, asked_by}
use Rattle.cmb_cone.specs.declared.closed.Found.{Found}

-- each net of the list is marked, and no other; and each is there once
pub record IsFound (found : Found) : Type 0 where
  pub marked : All (λ net. slice_index_or found.marks.items net false ≡ true) found.list.items
  pub listed : (net : ℕ) → slice_index_or found.marks.items net false ≡ true → Contains found.list.items net
  pub once : count_by (λ mark. mark) found.marks.items ≡ length found.list.items

-- the nets of a list came after the others, those that weren't there
pub record Gains (old : List ℕ) (nets : List ℕ) (new : List ℕ) : Type 0 where
  pub more : List ℕ
  pub after : new ≡ old ++ more
  pub asked : All (Contains nets) more
  pub has : All (Contains new) nets

-- all nets came that the others ask for, and that those ask for
pub record Follows (netlist : Netlist) (old new : List ℕ) : Type 0 where
  pub kept : All (Contains new) old
  pub closed : All (λ net. All (Contains new) (asked_by netlist net)) new
  pub needed : (others : List ℕ) → IsClosed netlist others → All (Contains others) old → All (Contains others) new
