-- The nets that clock rows name, and delays by place.
use Rattle.std.proofs.Common.{◌≡◌, ◌≢◌, ◌≤◌, ◌<◌, ◌+◌, ◌-◌, ℕ, List, [], ◌∷◌, ◌++◌, Some, None, length, get_or, map, set, true, false, Bool, refl, sym, ap, arith, ◌∙◌, ⊎_elim, get_or-set_other, get_or-set_same}
use Rattle.std.specs.Prelude.{◌||◌, ◌==◌, find, option_map, replicate}
use Rattle.std.specs.List.{range_with_len}
use Rattle.std.proofs.lemmas.Bool.Decides.{nat_tests}
use Rattle.std.proofs.lemmas.List.{get_or-replicate, length-replicate}
use Rattle.std.proofs.lemmas.List.Folds.{list_any-append}
use Rattle.std.proofs.lemmas.List.FromFn.{fill_by_all, get_or-map-range_with_len, length-map-range_with_len}
use Rattle.std.proofs.Math.ListN.{length-set}
use Rattle.cmb_netlist.specs.Netlist.{Netlist, number_of}
use Rattle.cmb_netlist.proofs.Names.{number_name}
use Rattle.cmb_design_model.specs.Nets.{driver_cell, is_at}
use Rattle.cmb_design_model.specs.Settings.{any_below, is_named, named_nets}
use Rattle.std.proofs.Common.{add-one}
use Rattle.cmb_netlist.specs.declared.netlist.Cell.TheVariants.{Gate as GateCell}
use Rattle.cmb_netlist.specs.declared.netlist.Driver.{Driver}
use Rattle.cmb_netlist.specs.declared.netlist.Driver.TheVariants.{Input, Gate, Flop}
use Rattle.cmb_design_model.specs.declared.rows.Delayed.TheVariants.{Pin, Net, Kind as ByKind}
use Rattle.cmb_design_model.specs.Nets.{kind_number, pins_at}
use Rattle.cmb_design_model.specs.Inner.Tables.{start}
use Rattle.cmb_design_model.specs.Timing.{is_of_kind, is_of_net, is_of_pin}
use Rattle.cmb_design_model.proofs.RowFacts.{kind_below, kind_rows, net_rows, pin_place-at, pin_rows}
use Rattle.cmb_design_model.specs.Inner.Tables.{place_at, row_place, delay_place}
use Rattle.cmb_design_model.specs.Timing.{delay_in}
use Rattle.cmb_design_model.specs.declared.rows.Delayed.{Delayed}
use Rattle.cmb_design_model.specs.declared.rows.ClockRow.{ClockRow}
use Rattle.cmb_design_model.specs.declared.rows.DelayRow.{DelayRow}
use Rattle.cmb_design_model.proofs.PlaceFacts.{same_or_not}

or_false : (b : Bool) → (b || false) ≡ b
or_false true = refl
or_false false = refl

or_true : (b : Bool) → (b || true) ≡ true
or_true true = refl
or_true false = refl

pub named-at : (netlist : Netlist) (rows : List ClockRow) (net : ℕ) (d : Bool) → net < length netlist.names → get_or (named_nets netlist rows) net d ≡ is_named netlist rows net
unfolding named_nets
named-at netlist rows net d h = get_or-map-range_with_len (is_named netlist rows) 0 (length netlist.names) net net d h (omega arith)

pub length-named : (netlist : Netlist) (rows : List ClockRow) → length (named_nets netlist rows) ≡ length netlist.names
unfolding named_nets
length-named netlist rows = length-map-range_with_len (is_named netlist rows) 0 (length netlist.names)

pub named_empty : (netlist : Netlist) (xs : List Bool) → xs ≡ replicate (length netlist.names) false → xs ≡ named_nets netlist []
unfolding named_nets
named_empty netlist xs e =
    rw e (fill_by_all (is_named netlist []) (replicate (length netlist.names) false) (length netlist.names) false (length-replicate (length netlist.names) false) (λ j b. get_or-replicate (length netlist.names) j false false b))

pub named_push : (netlist : Netlist) (es : List ClockRow) (r : ClockRow) (k : ℕ) → number_of netlist r.net ≡ Some k → set (named_nets netlist es) k true ≡ named_nets netlist (es ++ r ∷ [])
unfolding named_nets
named_push netlist es r k n =
    let old = map (is_named netlist es) (range_with_len 0 (length netlist.names)) in
    let len : length old ≡ length netlist.names = length-map-range_with_len (is_named netlist es) 0 (length netlist.names) in
    let below : k < length netlist.names = (number_name netlist r.net k n).0 in
    fill_by_all (is_named netlist (es ++ r ∷ [])) (set old k true) (length netlist.names) false (length-set old k true ∙ len) (λ j b. ⊎_elim
    (λ (s : j ≡ k).
    let u : k < length old = omega arith in
    let a : (k == k) ≡ true = grind (arith, nat_tests) in
    rw s (get_or-set_same old k true false u ∙ sym (list_any-append (λ row. is_at (number_of netlist row.net) k) es (r ∷ []) ∙ rw (n, a) (or_true (is_named netlist es k)))))
    (λ (s : j ≢ k).
    let a : (k == j) ≡ false = grind (arith, nat_tests) in
    get_or-set_other old k j true false s ∙ get_or-map-range_with_len (is_named netlist es) 0 (length netlist.names) j j false b (omega arith)
    ∙ sym (list_any-append (λ row. is_at (number_of netlist row.net) j) es (r ∷ []) ∙ rw (n, a) (or_false (is_named netlist es j))))
    (same_or_not j k))

pub named_skip : (netlist : Netlist) (es : List ClockRow) (r : ClockRow) → number_of netlist r.net ≡ None → named_nets netlist es ≡ named_nets netlist (es ++ r ∷ [])
unfolding named_nets
named_skip netlist es r n =
    fill_by_all (is_named netlist (es ++ r ∷ [])) (map (is_named netlist es) (range_with_len 0 (length netlist.names))) (length netlist.names) false
    (length-map-range_with_len (is_named netlist es) 0 (length netlist.names)) (λ j b.
    get_or-map-range_with_len (is_named netlist es) 0 (length netlist.names) j j false b (omega arith)
    ∙ sym (list_any-append (λ row. is_at (number_of netlist row.net) j) es (r ∷ []) ∙ rw n (or_false (is_named netlist es j))))

-- ---- delays by place

find-same : {X : Type 0} (f g : X → Bool) (xs : List X) → ((x : X) → f x ≡ g x) → find f xs ≡ find g xs
find-same f g [] h = refl
find-same f g (x ∷ xs) h = rw (h x, find-same f g xs h) refl

pub delay_in-place : (netlist : Netlist) (rows : List DelayRow) (is_of : Delayed → Bool) (k : ℕ) → ((what : Delayed) → is_of what ≡ is_at (delay_place netlist what) k)
    → delay_in is_of rows ≡ place_at (row_place netlist) (λ row. row.delay) rows k
unfolding place_at
delay_in-place netlist rows is_of k h = ap (option_map (λ row. row.delay)) (find-same (λ row. is_of row.what) (λ row. is_at (row_place netlist row) k) rows (λ row. h row.what))

pub cell_below : (driver : Driver) (k : ℕ) → driver_cell driver ≡ Some k → k < 9
cell_below Input k h = cc h
cell_below (Gate kind operands) k h = let e : kind_number kind ≡ k = cc h in omega (arith, kind_below (GateCell kind))
cell_below (Flop source) k h = let e : 8 ≡ k = cc h in omega arith

no_kind : (what : Delayed) → is_of_kind None what ≡ false
no_kind (Pin name pin) = refl
no_kind (Net name) = refl
no_kind (ByKind cell) = refl

find-none : {X : Type 0} (f : X → Bool) (xs : List X) → ((x : X) → f x ≡ false) → find f xs ≡ None
find-none f [] h = refl
find-none f (x ∷ xs) h = rw (h x, find-none f xs h) refl

pub delay_in-none : (rows : List DelayRow) → delay_in (is_of_kind None) rows ≡ None
delay_in-none rows = ap (option_map (λ row. row.delay)) (find-none (λ row. is_of_kind None row.what) rows (λ row. no_kind row.what))

pub delay_in-kind : (netlist : Netlist) (rows : List DelayRow) (kind : ℕ) → kind < 9 → delay_in (is_of_kind (Some kind)) rows ≡ place_at (row_place netlist) (λ row. row.delay) rows kind
delay_in-kind netlist rows kind h = delay_in-place netlist rows (is_of_kind (Some kind)) kind (λ what. kind_rows netlist kind what h)

pub delay_in-net : (netlist : Netlist) (rows : List DelayRow) (net : ℕ) → net < length netlist.names → delay_in (is_of_net netlist net) rows ≡ place_at (row_place netlist) (λ row. row.delay) rows (9 + net)
delay_in-net netlist rows net h = delay_in-place netlist rows (is_of_net netlist net) (9 + net) (λ what. net_rows netlist net what h)

pub delay_in-pin : (netlist : Netlist) (rows : List DelayRow) (net pin : ℕ) → net < length netlist.names → 1 ≤ pin → pin ≤ pins_at netlist net
    → delay_in (is_of_pin netlist net pin) rows ≡ place_at (row_place netlist) (λ row. row.delay) rows (9 + length netlist.names + start netlist net + (pin - 1))
delay_in-pin netlist rows net pin h low high =
    delay_in-place netlist rows (is_of_pin netlist net pin) (9 + length netlist.names + start netlist net + (pin - 1))
    (λ what. pin_rows netlist net pin (9 + length netlist.names + start netlist net + (pin - 1)) what h (pin_place-at netlist net pin low high))

-- ---- some net below

pub any_below-next : (test : ℕ → Bool) (n : ℕ) → any_below test (n + 1) ≡ (any_below test n || test n)
unfolding any_below
any_below-next test n = rw add-one refl
