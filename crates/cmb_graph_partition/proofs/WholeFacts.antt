-- One share that has all nets is a partition.
use Rattle.std.proofs.Common.{◌≡◌, inl, ℕ, ◌<◌, true, false, List, [], ◌∷◌, length, get_or, replicate, sym, ap, ◌∙◌, subst, arith}
use Rattle.std.specs.Prelude.{All, IfSome, Some, slice_get}
use Rattle.std.proofs.lemmas.List.{length-replicate, get_or-replicate}
use Rattle.std.proofs.lemmas.List.Elements.{All-cons, All-nil}
use Rattle.cmb_netlist.proofs.Wired.{pins-below}
use Rattle.cmb_netlist.specs.Netlist.{IsNetlist, Netlist, driver_of, pins_of}
use Rattle.cmb_graph_partition.specs.Partitions.{Crosses, Drives, IsFlop, IsPartition, Knows, KnowsAll, Owns, ShareDrives}
use Rattle.cmb_graph_partition.specs.declared.shares.Share.{Share}
use Rattle.cmb_graph_partition.specs.declared.shares.Partition.{Partition}

module _ (netlist : Netlist) (partition : Partition) (share : Share) (lawful : IsNetlist netlist)
    (owners : partition.owners.items ≡ replicate (length netlist.names) 0) (crossing : partition.crossing.items ≡ replicate (length netlist.names) false)
    (driven : share.driven.items ≡ replicate (length netlist.names) true) (shares : partition.shares.items ≡ share ∷ []) where
  drives : (net : ℕ) → net < length netlist.names → Drives share net
  drives net within = ap (λ marks. get_or marks net false) driven ∙ get_or-replicate (length netlist.names) net true false within

  owns : (net : ℕ) → net < length netlist.names → Owns partition share net
  owns net within =
      let e : get_or partition.owners.items net 0 ≡ 0 = ap (λ owners. get_or owners net 0) owners ∙ get_or-replicate (length netlist.names) net 0 0 within in
      let P : ℕ → Type 0 = λ number. slice_get partition.shares.items number ≡ Some share in
      subst P (sym e) (ap (λ list. slice_get list 0) shares)

  first_drives : (net : ℕ) → net < length netlist.names → ShareDrives partition 0 net
  first_drives net within =
      let Q : List Share → Type 0 = λ list. IfSome (slice_get list 0) (λ (one : Share). Drives one net) in
      subst Q (sym shares) (drives net within)

  knows : (number : ℕ) → number < length partition.shares.items → KnowsAll netlist partition number
  knows number within net inside driving k d at =
      let one : length partition.shares.items ≡ 1 = ap length shares in
      let first : 0 ≡ number = omega (arith, one, within) in
      let pin : get_or (pins_of (driver_of netlist net)) k d < length netlist.names = pins-below netlist lawful net k d at in
      let P : ℕ → Type 0 = λ n. Knows partition n (get_or (pins_of (driver_of netlist net)) k d) in
      subst P first (inl (first_drives (get_or (pins_of (driver_of netlist net)) k d) pin))

  crosses_none : (net : ℕ) → net < length netlist.names → Crosses partition net → IsFlop netlist net
  crosses_none net within crosses =
      let e : get_or partition.crossing.items net false ≡ false = ap (λ marks. get_or marks net false) crossing ∙ get_or-replicate (length netlist.names) net false false within in
      cc

  pub whole_is_partition : IsPartition netlist partition
  whole_is_partition =
      let count : length partition.shares.items ≡ 1 = ap length shares in
      let P : Share → Type 0 = λ one. length one.driven.items ≡ length netlist.names in
      record {
        nets = ap length owners ∙ length-replicate (length netlist.names) 0;
        crossed = ap length crossing ∙ length-replicate (length netlist.names) false;
        few = omega (arith, count);
        marks = subst (All P) (sym shares) (All-cons P share [] (ap length driven ∙ length-replicate (length netlist.names) true) (All-nil P));
        owned = λ net within. (share, owns net within, drives net within);
        known = knows;
        sampled = crosses_none;
      }
