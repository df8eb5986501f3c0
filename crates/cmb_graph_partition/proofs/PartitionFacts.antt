-- What a check of a partition says.
use Rattle.std.proofs.Common.{◌≡◌, ◌⊎◌, inl, inr, ℕ, ◌+◌, ◌<◌, ◌≤◌, Bool, true, false, List, length, take, get_or, refl, sym, ◌∙◌, subst, arith}
use Rattle.std.specs.Prelude.{All, IfSome, Option, Some, slice_get}
use Rattle.std.proofs.lemmas.Bool.{cases_lt}
use Rattle.std.proofs.lemmas.List.{get_or_read, take_all, take_more}
use Rattle.std.proofs.lemmas.List.Elements.{All-push}
use Rattle.std.proofs.lemmas.Option.{get_or_from_slice_get, slice_get_read, slice_get_within}
use Rattle.cmb_netlist.specs.Netlist.{Netlist}
use Rattle.cmb_graph_partition.specs.Partitions.{Drives, Owns, ShareDrives}
use Rattle.cmb_graph_partition.specs.declared.shares.Share.{Share}
use Rattle.cmb_graph_partition.specs.declared.shares.Partition.{Partition}

-- one element more
pub all_more : {X : Type 0} (P : X → Type 0) (xs : List X) (i : ℕ) (d : X) → i < length xs → All P (take i xs) → P (get_or xs i d) → All P (take (i + 1) xs)
all_more {X = X} P xs i d within all here =
    let Q : List X → Type 0 = λ ys. All P ys in
    subst Q (sym (take_more xs i d within)) (All-push P (take i xs) (get_or xs i d) all here)

-- all elements
pub all_taken : {X : Type 0} (P : X → Type 0) (xs ys : List X) (i : ℕ) → length xs ≤ i → xs ≡ ys → All P (take i xs) → All P ys
all_taken {X = X} P xs ys i far same all = let Q : List X → Type 0 = λ zs. All P zs in subst Q (take_all i xs far ∙ same) all

-- one number more
pub upto_more : (P : ℕ → Type 0) (n : ℕ) → ((i : ℕ) → i < n → P i) → P n → (i : ℕ) → i < n + 1 → P i
upto_more P n before here i within = by (cases_lt i n)
  where
    by : (i < n) ⊎ (n ≤ i) → P i
    by (inl l) = before i l
    by (inr g) = let e : n ≡ i = omega arith in subst P e here

-- the share that was read as a net's owner
pub owns_read : (partition : Partition) (owner : Share) (net number : ℕ) → net < length partition.owners.items → All (λ o. o < length partition.shares.items) partition.owners.items
    → number ≡ get_or partition.owners.items net number → owner ≡ get_or partition.shares.items number owner → Owns partition owner net
owns_read partition owner net number within below at is =
    let e : number ≡ get_or partition.owners.items net 0 = get_or_read partition.owners.items net number within at 0 in
    let l : get_or partition.owners.items net 0 < length partition.shares.items = below net 0 within in
    let P : ℕ → Type 0 = λ i. slice_get partition.shares.items i ≡ Some owner in
    subst P e (slice_get_read partition.shares.items (length partition.shares.items) number owner refl (omega (arith, e, l)) is)

-- an owner has a mark for each net
pub within_marks : (netlist : Netlist) (partition : Partition) (owner : Share) (net : ℕ) → All (λ (share : Share). length share.driven.items ≡ length netlist.names) partition.shares.items → Owns partition owner net
    → length owner.driven.items ≡ length netlist.names
within_marks netlist partition owner net marks owns =
    let e : get_or partition.shares.items (get_or partition.owners.items net 0) owner ≡ owner = get_or_from_slice_get partition.shares.items (get_or partition.owners.items net 0) owner owner owns in
    let P : Share → Type 0 = λ s. length s.driven.items ≡ length netlist.names in
    subst P e (marks (get_or partition.owners.items net 0) owner (slice_get_within partition.shares.items (get_or partition.owners.items net 0) owner owns))

-- a mark that was read
pub drives_read : (share : Share) (net : ℕ) (mark : Bool) → net < length share.driven.items → mark ≡ get_or share.driven.items net mark → mark ≡ true → Drives share net
drives_read share net mark within at set = sym (get_or_read share.driven.items net mark within at false) ∙ set

pub drives_not : (share : Share) (net : ℕ) (mark : Bool) → net < length share.driven.items → mark ≡ get_or share.driven.items net mark → mark ≡ false → Drives share net → ⊥
drives_not share net mark within at clear driving = let e = get_or_read share.driven.items net mark within at false in cc

-- whether the share of a number drives a net is its mark
pub share_drives : (netlist : Netlist) (partition : Partition) (number net : ℕ) (share : Share) (mark : Bool) → number < length partition.shares.items → net < length netlist.names
    → All (λ (share : Share). length share.driven.items ≡ length netlist.names) partition.shares.items → share ≡ get_or partition.shares.items number share
    → mark ≡ get_or share.driven.items net mark → mark ≡ true → ShareDrives partition number net
share_drives netlist partition number net share mark within inside marks is at set =
    let e = slice_get_read partition.shares.items (length partition.shares.items) number share refl within is in
    let P : Share → Type 0 = λ s. length s.driven.items ≡ length netlist.names in
    let long : P share = subst P (sym is) (marks number share within) in
    let d : Drives share net = drives_read share net mark (omega (arith, long)) at set in
    let Q : Option Share → Type 0 = λ o. IfSome o (λ (s : Share). Drives s net) in
    subst Q (sym e) d

pub share_drives_not : (netlist : Netlist) (partition : Partition) (number net : ℕ) (share : Share) (mark : Bool) → number < length partition.shares.items → net < length netlist.names
    → All (λ (share : Share). length share.driven.items ≡ length netlist.names) partition.shares.items → share ≡ get_or partition.shares.items number share
    → mark ≡ get_or share.driven.items net mark → mark ≡ false → ShareDrives partition number net → ⊥
share_drives_not netlist partition number net share mark within inside marks is at clear driving =
    let e = slice_get_read partition.shares.items (length partition.shares.items) number share refl within is in
    let P : Share → Type 0 = λ s. length s.driven.items ≡ length netlist.names in
    let long : P share = subst P (sym is) (marks number share within) in
    let Q : Option Share → Type 0 = λ o. IfSome o (λ (s : Share). Drives s net) in
    drives_not share net mark (omega (arith, long)) at clear (subst Q e driving)
