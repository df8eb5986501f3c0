-- A path-based search for strongly connected components (H. N. Gabow, Path-based depth-first search for strong and biconnected components,
-- Information Processing Letters 74, 2000; the first of its kind is of P. Purdom, 1970).
use Rattle.std.specs.Prelude.{◌≡◌, ◌⊎◌, ℕ, ◌<◌, ◌≤◌, Bool, true, false, Option, Some, None, List, [], ◌∷◌, ◌++◌, length, drop, slice_index, count_by, ◌+◌, slice_index_or, slice_set, replicate, All, AllPairs, Contains}
use Rattle.cmb_netlist.specs.Netlist.{Netlist}
use Rattle.cmb_graph.specs.Loops.{Reaches, Walk, targets}
use Rattle.cmb_graph.specs.declared.steps.Steps.{Steps}
use Rattle.cmb_graph.specs.declared.search.Search.{Search}
use Rattle.cmb_graph.specs.declared.search.Frame.{Frame}
use Rattle.cmb_graph.specs.declared.search.Seen.{Seen}
use Rattle.cmb_graph.specs.declared.search.Seen.TheVariants.{New, On, Done}

abbrev pub seen_of : List Seen → ℕ → Seen
seen_of seen net = slice_index_or seen net New

-- no part begins between two places of the path
abbrev pub IsOnePart : List ℕ → ℕ → ℕ → Type 0
IsOnePart starts low high = (start : ℕ) → Contains starts start → start ≤ high → start ≤ low

-- a step from a place of the path has been followed: to a net that is done, or to one on the path, not before the part of that place
abbrev pub IsFollowed : List Seen → List ℕ → ℕ → ℕ → Type 0
IsFollowed seen starts place target =
    (seen_of seen target ≡ Done) ⊎ ((at : ℕ) × (seen_of seen target ≡ On at) × IsOnePart starts at place)

-- a step from a place of the path is left
abbrev pub IsLeft : List Frame → ℕ → List ℕ → ℕ → Type 0
IsLeft frames place targets target = (frame : Frame) × Contains frames frame × (frame.place ≡ place) × Contains (drop frame.next targets) target

-- what holds at any time of a search
pub record IsSearch (next : ℕ → List ℕ) (seen : List Seen) (marks : List Bool) (path starts : List ℕ) (frames : List Frame) : Type 0 where
  pub long : length marks ≡ length seen
  -- the path has the nets that are on it, each at its place
  pub listed : (place : ℕ) → place < length path → seen_of seen (slice_index path place) ≡ On place
  pub placed : (net place : ℕ) → seen_of seen net ≡ On place → (place < length path) × (slice_index path place ≡ net)
  -- each net of the path reaches those behind it, and within its part those before it
  pub forth : (low high : ℕ) → low ≤ high → high < length path → Reaches next (slice_index path low) (slice_index path high)
  pub back : (low high : ℕ) → low ≤ high → high < length path → IsOnePart starts low high → Reaches next (slice_index path high) (slice_index path low)
  -- from nets that are done steps lead to such nets alone, and their marks are right
  pub closed : (net target : ℕ) → seen_of seen net ≡ Done → Contains (next net) target → seen_of seen target ≡ Done
  pub loops : (net : ℕ) → slice_index_or marks net false ≡ true → Walk next net net
  pub all : (net : ℕ) → seen_of seen net ≡ Done → Walk next net net → slice_index_or marks net false ≡ true
  -- each step from a net of the path is followed or left
  pub steps : (place target : ℕ) → place < length path → Contains (next (slice_index path place)) target
      → IsLeft frames place (next (slice_index path place)) target ⊎ IsFollowed seen starts place target
  -- frames and parts come in the order of the path, and where a part begins steps are left; the first part begins with the path
  pub frames_rise : AllPairs (λ (one other : Frame). one.place < other.place) frames
  pub frames_within : All (λ (frame : Frame). frame.place < length path) frames
  pub starts_rise : AllPairs (λ one other. one < other) starts
  pub starts_left : (start : ℕ) → Contains starts start → (frame : Frame) × Contains frames frame × (frame.place ≡ start)
  pub first : 0 < length path → Contains starts 0

-- nets that are done have numbers below how many are done: the nets of one part the same, and steps lead to no greater one
pub record IsNumbered (next : ℕ → List ℕ) (seen : List Seen) (numbers : List ℕ) (done : ℕ) : Type 0 where
  pub long : length numbers ≡ length seen
  pub below : (net : ℕ) → seen_of seen net ≡ Done → slice_index numbers net < done
  pub falls : (net target : ℕ) → seen_of seen net ≡ Done → Contains (next net) target → slice_index numbers target ≤ slice_index numbers net
  pub together : (net other : ℕ) → seen_of seen net ≡ Done → seen_of seen other ≡ Done → slice_index numbers net ≡ slice_index numbers other → Reaches next net other

abbrev pub is_new : Seen → Bool
is_new New = true
is_new (On place) = false
is_new Done = false

-- a search of a netlist, with these nets of which steps are left
pub record IsUnderWay (netlist : Netlist) (steps : Steps) (search : Search) (frames : List Frame) : Type 0 where
  pub inside : (net : ℕ) → All (λ target. target < length netlist.names) (targets netlist steps net)
  pub sized : length search.seen.items ≡ length netlist.names
  pub is : IsSearch (targets netlist steps) search.seen.items search.marks.items search.path.items search.starts.items frames
  pub numbered : IsNumbered (targets netlist steps) search.seen.items search.numbers.items search.done
  pub room : search.done + length search.path.items + count_by is_new search.seen.items ≤ length netlist.names

-- where steps lead from a place of the path
abbrev pub targets_at : Netlist → Steps → Search → ℕ → List ℕ
targets_at netlist steps search place = targets netlist steps (slice_index search.path.items place)

-- the steps from a place were followed: up to one that leads to a new net, or all
abbrev pub IsScanned : Netlist → Steps → Search → List Frame → ℕ → Option ℕ → Type 0
IsScanned netlist steps search frames place (Some next) =
    (next < length (targets_at netlist steps search place)) × (seen_of search.seen.items (slice_index (targets_at netlist steps search place) next) ≡ New)
    × IsUnderWay netlist steps search (frames ++ record { place = place; next = next } ∷ [])
IsScanned netlist steps search frames place None =
    (next : ℕ) × (length (targets_at netlist steps search place) ≤ next) × IsUnderWay netlist steps search (frames ++ record { place = place; next = next } ∷ [])

-- no net became new
abbrev pub IsStill : List Seen → List Seen → Type 0
IsStill old new = (net : ℕ) → seen_of new net ≡ New → seen_of old net ≡ New

-- a new net was put at the end of the path, as a part of its own
pub record IsEntered (old : Search) (net : ℕ) (new : Search) : Type 0 where
  pub seen : new.seen.items ≡ slice_set old.seen.items net (On (length old.path.items))
  pub marks : new.marks.items ≡ old.marks.items
  pub numbers : new.numbers.items ≡ old.numbers.items
  pub done : new.done ≡ old.done
  pub path : new.path.items ≡ old.path.items ++ net ∷ []
  pub starts : new.starts.items ≡ old.starts.items ++ length old.path.items ∷ []
  pub frames : new.frames.items ≡ old.frames.items ++ record { place = length old.path.items; next = 0 } ∷ []

-- these places have this value, and the others the one that they had
pub record AreSet {A : Type 0} (value : A) (old : List A) (places : List ℕ) (new : List A) : Type 0 where
  pub long : length new ≡ length old
  pub all : (beyond : A) → All (λ place. slice_index_or new place beyond ≡ value) places
  pub others : (place : ℕ) (beyond : A) → Contains places place ⊎ (slice_index_or new place beyond ≡ slice_index_or old place beyond)

-- a part has an edge inside: it has two nets, or one with a step to itself
abbrev pub HasEdge : (ℕ → List ℕ) → List ℕ → Type 0
HasEdge next part = (1 < length part) ⊎ Contains (next (slice_index part 0)) (slice_index part 0)

-- the nets of a part are marked where it has an edge inside, and no others became so
pub record IsLooped (next : ℕ → List ℕ) (old : List Bool) (part : List ℕ) (new : List Bool) : Type 0 where
  pub long : length new ≡ length old
  pub kept : (net : ℕ) → slice_index_or old net false ≡ true → slice_index_or new net false ≡ true
  pub all : HasEdge next part → All (λ net. slice_index_or new net false ≡ true) part
  pub only : (net : ℕ) → slice_index_or new net false ≡ true → (slice_index_or old net false ≡ true) ⊎ (Contains part net × HasEdge next part)

-- a search of so many nets of which none was found
pub record IsBegun (count : ℕ) (search : Search) : Type 0 where
  pub seen : search.seen.items ≡ replicate count New
  pub marks : search.marks.items ≡ replicate count false
  pub numbers : search.numbers.items ≡ replicate count 0
  pub done : search.done ≡ 0
  pub path : search.path.items ≡ []
  pub starts : search.starts.items ≡ []
  pub frames : search.frames.items ≡ []
