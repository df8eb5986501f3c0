-- The places of rows and the checks of rows.
use Rattle.std.proofs.Common.{◌≡◌, ◌≤◌, ◌<◌, ◌+◌, ◌-◌, ℕ, zero, suc, List, [], ◌∷◌, Option, Some, None, length, true, false, Bool, refl, sym, ap, arith, ◌∙◌, cond, ⊎_elim}
use Rattle.std.specs.Prelude.{◌==◌, ◌&&◌, ◌||◌, is_some, option_map, option_and_then, bytes_eq, nat_le}
use Rattle.std.specs.List.{list_any, list_all}
use Rattle.std.proofs.lemmas.Bool.{cases_lt}
use Rattle.std.proofs.lemmas.Bool.Decides.{nat_tests}
use Rattle.std.proofs.lemmas.Slice.Eq.{bytes_eq-Decides}
use Rattle.cmb_netlist.specs.declared.netlist.Kind.TheVariants.{And}
use Rattle.cmb_netlist.specs.declared.netlist.Cell.{Cell}
use Rattle.cmb_netlist.specs.declared.netlist.Cell.TheVariants.{Gate as GateCell}
use Rattle.cmb_netlist.specs.Netlist.{Netlist, driver_of, number_of}
use Rattle.cmb_netlist.proofs.Names.{number_name, same_name}
use Rattle.cmb_design_model.specs.Checks.{first_fault}
use Rattle.cmb_design_model.specs.Nets.{cell_number, is_at, is_input, is_within, pins_at}
use Rattle.cmb_design_model.specs.Rows.{delayed_checks, is_about_input, same_delayed}
use Rattle.cmb_design_model.specs.Inner.Tables.{delay_place, pin_place, row_place, start, starts_of, table_size}
use Rattle.std.proofs.Common.{add-one, get_or}
use Rattle.std.proofs.lemmas.List.FromFn.{get_or-map-range_with_len, length-map-range_with_len}
use Rattle.cmb_design_model.specs.Timing.{is_of_kind, is_of_net, is_of_pin}
use Rattle.cmb_design_model.specs.declared.fault.DesignFault.TheVariants as fault
use Rattle.cmb_design_model.specs.declared.rows.Delayed.{Delayed}
use Rattle.cmb_design_model.specs.declared.rows.Delayed.TheVariants.{Pin, Net, Kind as ByKind}
use Rattle.cmb_design_model.specs.declared.rows.DelayRow.{DelayRow}

pub is_at-true : (o : Option ℕ) (k : ℕ) → is_at o k ≡ true → o ≡ Some k
is_at-true None k h = cc h
is_at-true (Some n) k h = let e : n ≡ k = grind (arith, nat_tests) in ap Some e

pub is_at-same : (o : Option ℕ) (k : ℕ) → o ≡ Some k → is_at o k ≡ true
is_at-same o k h = rw h (grind (arith, nat_tests))

-- two tests are one where each follows from the other
pub same_test : (a b : Bool) → (a ≡ true → b ≡ true) → (b ≡ true → a ≡ true) → a ≡ b
same_test true true f g = refl
same_test true false f g = sym (f refl)
same_test false true f g = g refl
same_test false false f g = refl

-- ---- clock rows

-- where a row's net has a number, the rows of the same net are those with that number
pub named_same : (netlist : Netlist) (name other : List ℕ) (k : ℕ) → number_of netlist name ≡ Some k → bytes_eq other name ≡ is_at (number_of netlist other) k
named_same netlist name other k h = same_test _ _
    (λ b. let e : other ≡ name = (bytes_eq-Decides other name).0 b in is_at-same _ k (ap (number_of netlist) e ∙ h))
    (λ b. (bytes_eq-Decides other name).1 (same_name netlist other name k (is_at-true _ k b) h))

pub list_any-same : {X : Type 0} (f g : X → Bool) (xs : List X) → ((x : X) → f x ≡ g x) → list_any f xs ≡ list_any g xs
list_any-same f g [] h = refl
list_any-same f g (x ∷ xs) h = rw (h x, list_any-same f g xs h) refl

-- ---- the places of delay rows

start_step : (netlist : Netlist) (a b : ℕ) → a ≤ b → start netlist a ≤ start netlist b
unfolding start
start_step netlist a zero h = let e : a ≡ 0 = omega arith in rw e (omega arith)
start_step netlist a (suc b) h = ⊎_elim
    (λ (g : b < a). let e : a ≡ suc b = omega arith in rw e (omega arith))
    (λ (g : a ≤ b). omega (arith, start_step netlist a b g))
    (cases_lt b a)

pub start_apart : (netlist : Netlist) (a b : ℕ) → a < b → start netlist a + pins_at netlist a ≤ start netlist b
unfolding start
start_apart netlist a b h = start_step netlist (suc a) b (omega arith)

pub pin_place-is : (netlist : Netlist) (net pin k : ℕ) → pin_place netlist net pin ≡ Some k
    → (1 ≤ pin) × (pin ≤ pins_at netlist net) × (k ≡ 9 + length netlist.names + start netlist net + (pin - 1))
pin_place-is netlist net pin k h = by (nat_le 1 pin) refl (nat_le pin (pins_at netlist net)) refl h
  where
    by : (a : Bool) → nat_le 1 pin ≡ a → (b : Bool) → nat_le pin (pins_at netlist net) ≡ b
        → cond (a && b) (Some (9 + length netlist.names + start netlist net + (pin - 1))) None ≡ Some k
        → (1 ≤ pin) × (pin ≤ pins_at netlist net) × (k ≡ 9 + length netlist.names + start netlist net + (pin - 1))
    by true e true f h = (grind (arith, nat_tests), grind (arith, nat_tests), cc h)
    by true e false f h = cc h
    by false e true f h = cc h
    by false e false f h = cc h

pub pin_one : (netlist : Netlist) (a p b q k : ℕ) → pin_place netlist a p ≡ Some k → pin_place netlist b q ≡ Some k → (a ≡ b) × (p ≡ q)
pin_one netlist a p b q k h g =
    let x = pin_place-is netlist a p k h in
    let y = pin_place-is netlist b q k g in
    ⊎_elim
    (λ (l : a < b). let s : start netlist a + pins_at netlist a ≤ start netlist b = start_apart netlist a b l in absurd (omega arith))
    (λ (l : b ≤ a). ⊎_elim
    (λ (m : b < a). let s : start netlist b + pins_at netlist b ≤ start netlist a = start_apart netlist b a m in absurd (omega arith))
    (λ (m : a ≤ b). let e : a ≡ b = omega arith in let f : start netlist a ≡ start netlist b = ap (start netlist) e in (e, omega arith))
    (cases_lt b a))
    (cases_lt a b)

pub kind_below : (cell : Cell) → cell_number cell < 9
kind_below (GateCell And) = omega arith
kind_below _ = omega arith

-- a placed row of a net
pub net_placed : (netlist : Netlist) (name : List ℕ) (k : ℕ) → delay_place netlist (Net name) ≡ Some k → (m : ℕ) × (number_of netlist name ≡ Some m) × (k ≡ 9 + m) × (m < length netlist.names)
net_placed netlist name k h = by (number_of netlist name) refl h
  where
    by : (o : Option ℕ) → number_of netlist name ≡ o → option_map (λ net. 9 + net) o ≡ Some k → (m : ℕ) × (number_of netlist name ≡ Some m) × (k ≡ 9 + m) × (m < length netlist.names)
    by None e h = cc h
    by (Some m) e h = (m, e, cc h, (number_name netlist name m e).0)

-- a placed row of a pin
pub pin_placed : (netlist : Netlist) (name : List ℕ) (pin k : ℕ) → delay_place netlist (Pin name pin) ≡ Some k → (m : ℕ) × (number_of netlist name ≡ Some m) × (pin_place netlist m pin ≡ Some k) × (m < length netlist.names)
pin_placed netlist name pin k h = by (number_of netlist name) refl h
  where
    by : (o : Option ℕ) → number_of netlist name ≡ o → option_and_then (λ net. pin_place netlist net pin) o ≡ Some k
        → (m : ℕ) × (number_of netlist name ≡ Some m) × (pin_place netlist m pin ≡ Some k) × (m < length netlist.names)
    by None e h = cc h
    by (Some m) e h = (m, e, h, (number_name netlist name m e).0)

-- places are in the table
pub place_below : (netlist : Netlist) (what : Delayed) (k : ℕ) → delay_place netlist what ≡ Some k → k < table_size netlist
place_below netlist (ByKind cell) k h = let e : cell_number cell ≡ k = cc h in omega (arith, kind_below cell)
place_below netlist (Net name) k h = let x = net_placed netlist name k h in omega (arith, x.2, x.3)
place_below netlist (Pin name pin) k h =
    let x = pin_placed netlist name pin k h in
    let y = pin_place-is netlist x.0 pin k x.2 in
    let s : start netlist x.0 + pins_at netlist x.0 ≤ start netlist (length netlist.names) = start_apart netlist x.0 (length netlist.names) x.3 in
    omega (arith, y.0, y.1, y.2)

-- rows about the same have one place
pub same_place : (netlist : Netlist) (a b : Delayed) → same_delayed a b ≡ true → delay_place netlist a ≡ delay_place netlist b
same_place netlist (Pin n p) (Pin m q) h = by (bytes_eq n m) refl h
  where
    by : (t : Bool) → bytes_eq n m ≡ t → (t && (p == q)) ≡ true → delay_place netlist (Pin n p) ≡ delay_place netlist (Pin m q)
    by true e g = let d : n ≡ m = (bytes_eq-Decides n m).0 e in let f : p ≡ q = grind (arith, nat_tests) in ap (λ x. delay_place netlist (Pin x p)) d ∙ ap (λ x. delay_place netlist (Pin m x)) f
    by false e g = cc g
same_place netlist (Pin n p) (Net m) h = cc h
same_place netlist (Pin n p) (ByKind m) h = cc h
same_place netlist (Net n) (Pin m q) h = cc h
same_place netlist (Net n) (Net m) h = ap (λ x. delay_place netlist (Net x)) ((bytes_eq-Decides n m).0 h)
same_place netlist (Net n) (ByKind m) h = cc h
same_place netlist (ByKind n) (Pin m q) h = cc h
same_place netlist (ByKind n) (Net m) h = cc h
same_place netlist (ByKind n) (ByKind m) h = let e : cell_number n ≡ cell_number m = grind (arith, nat_tests) in ap Some e

-- rows with one place are about the same
pub place_same : (netlist : Netlist) (a b : Delayed) (k : ℕ) → delay_place netlist a ≡ Some k → delay_place netlist b ≡ Some k → same_delayed a b ≡ true
place_same netlist (Pin n p) (Pin m q) k h g =
    let x = pin_placed netlist n p k h in
    let y = pin_placed netlist m q k g in
    let o = pin_one netlist x.0 p y.0 q k x.2 y.2 in
    let d : bytes_eq n m ≡ true = (bytes_eq-Decides n m).1 (same_name netlist n m y.0 (x.1 ∙ ap Some o.0) y.1) in
    let f : p ≡ q = o.1 in
    rw (d, f) (grind (arith, nat_tests))
place_same netlist (Pin n p) (Net m) k h g =
    let x = pin_placed netlist n p k h in
    let y = net_placed netlist m k g in
    let z = pin_place-is netlist x.0 p k x.2 in
    absurd (omega (arith, y.2, y.3, z.2))
place_same netlist (Pin n p) (ByKind m) k h g =
    let x = pin_placed netlist n p k h in
    let z = pin_place-is netlist x.0 p k x.2 in
    let e : cell_number m ≡ k = cc g in
    absurd (omega (arith, kind_below m, z.2))
place_same netlist (Net n) (Pin m q) k h g =
    let x = pin_placed netlist m q k g in
    let y = net_placed netlist n k h in
    let z = pin_place-is netlist x.0 q k x.2 in
    absurd (omega (arith, y.2, y.3, z.2))
place_same netlist (Net n) (Net m) k h g =
    let x = net_placed netlist n k h in
    let y = net_placed netlist m k g in
    let e : x.0 ≡ y.0 = omega (arith, x.2, y.2) in
    (bytes_eq-Decides n m).1 (same_name netlist n m y.0 (x.1 ∙ ap Some e) y.1)
place_same netlist (Net n) (ByKind m) k h g =
    let y = net_placed netlist n k h in
    let e : cell_number m ≡ k = cc g in
    absurd (omega (arith, kind_below m, y.2))
place_same netlist (ByKind n) (Pin m q) k h g =
    let x = pin_placed netlist m q k g in
    let z = pin_place-is netlist x.0 q k x.2 in
    let e : cell_number n ≡ k = cc h in
    absurd (omega (arith, kind_below n, z.2))
place_same netlist (ByKind n) (Net m) k h g =
    let y = net_placed netlist m k g in
    let e : cell_number n ≡ k = cc h in
    absurd (omega (arith, kind_below n, y.2))
place_same netlist (ByKind n) (ByKind m) k h g = let e : cell_number n ≡ cell_number m = cc (h ∙ sym g) in rw e (grind (arith, nat_tests))

-- a placed row is repeated where an earlier row has its place
pub repeated_place : (netlist : Netlist) (what : Delayed) (k : ℕ) (es : List DelayRow) → delay_place netlist what ≡ Some k
    → list_any (λ o. is_at (row_place netlist o) k) es ≡ list_any (λ o. same_delayed o.what what) es
repeated_place netlist what k es h = list_any-same (λ o. is_at (row_place netlist o) k) (λ o. same_delayed o.what what) es
    (λ o. same_test _ _ (λ b. place_same netlist o.what what k (is_at-true _ k b) h) (λ b. is_at-same _ k (same_place netlist o.what what b ∙ h)))

-- a row with no place is about nothing that rows with places are about
pub unplaced_new : (netlist : Netlist) (what : Delayed) (es : List DelayRow) → delay_place netlist what ≡ None → list_all (λ o. is_some (row_place netlist o)) es ≡ true
    → list_any (λ o. same_delayed o.what what) es ≡ false
unplaced_new netlist what [] h g = refl
unplaced_new netlist what (e ∷ es) h g = by (is_some (row_place netlist e)) refl (same_delayed e.what what) refl g (unplaced_new netlist what es h)
  where
    by : (t : Bool) → is_some (row_place netlist e) ≡ t → (s : Bool) → same_delayed e.what what ≡ s → (t && list_all (λ o. is_some (row_place netlist o)) es) ≡ true
        → (list_all (λ o. is_some (row_place netlist o)) es ≡ true → list_any (λ o. same_delayed o.what what) es ≡ false) → (s || list_any (λ o. same_delayed o.what what) es) ≡ false
    by true p true q g more = let z : is_some (delay_place netlist e.what) ≡ false = ap is_some (same_place netlist e.what what q ∙ h) in cc (sym p ∙ z)
    by true p false q g more = more g
    by false p s q g more = cc g

-- ---- the checks of delay rows

-- what the checks of a row with a place answer, by whether an earlier row is about the same and whether it is about an input
pub checks_placed : (netlist : Netlist) (n k : ℕ) (held about : Bool) (what : Delayed) → delay_place netlist what ≡ Some k → is_about_input netlist what ≡ about
    → first_fault (delayed_checks netlist n held what) ≡ cond held (Some (fault.RepeatedRow n)) (cond about (Some (fault.DelayOfInput n)) None)
unfolding delayed_checks first_fault
checks_placed netlist n k held about (ByKind cell) h i = rw (sym i) refl
checks_placed netlist n k held about (Net name) h i = let x = net_placed netlist name k h in let e : number_of netlist name ≡ Some x.0 = x.1 in let j = rw e at i in rw (e, j) refl
checks_placed netlist n k held about (Pin name pin) h i =
    let x = pin_placed netlist name pin k h in
    let y = pin_place-is netlist x.0 pin k x.2 in
    let e : number_of netlist name ≡ Some x.0 = x.1 in
    let low : nat_le 1 pin ≡ true = let z : 1 ≤ pin = y.0 in grind (arith, nat_tests) in
    let high : nat_le pin (pins_at netlist x.0) ≡ true = let z : pin ≤ pins_at netlist x.0 = y.1 in grind (arith, nat_tests) in
    let j = rw e at i in rw (e, j, low, high) refl

pub fault_net : (netlist : Netlist) (n : ℕ) (name : List ℕ) → delay_place netlist (Net name) ≡ None → first_fault (delayed_checks netlist n false (Net name)) ≡ Some (fault.UnknownNet n)
unfolding delayed_checks first_fault
fault_net netlist n name h = let e : number_of netlist name ≡ None = by (number_of netlist name) h in rw e refl
  where
    by : (o : Option ℕ) → option_map (λ net. 9 + net) o ≡ None → o ≡ None
    by None h = refl
    by (Some m) h = cc h

pub fault_pin-unknown : (netlist : Netlist) (n : ℕ) (name : List ℕ) (pin : ℕ) → number_of netlist name ≡ None → first_fault (delayed_checks netlist n false (Pin name pin)) ≡ Some (fault.UnknownNet n)
unfolding delayed_checks first_fault
fault_pin-unknown netlist n name pin e = rw e refl

pub fault_pin-input : (netlist : Netlist) (n : ℕ) (name : List ℕ) (pin k : ℕ) → number_of netlist name ≡ Some k → is_input (driver_of netlist k) ≡ true
    → first_fault (delayed_checks netlist n false (Pin name pin)) ≡ Some (fault.DelayOfInput n)
unfolding delayed_checks first_fault
fault_pin-input netlist n name pin k e i = rw (e, i) refl

pub fault_pin-lacks : (netlist : Netlist) (n : ℕ) (name : List ℕ) (pin k : ℕ) → number_of netlist name ≡ Some k → is_input (driver_of netlist k) ≡ false → delay_place netlist (Pin name pin) ≡ None
    → first_fault (delayed_checks netlist n false (Pin name pin)) ≡ Some (fault.NoPin n)
unfolding delayed_checks first_fault
fault_pin-lacks netlist n name pin k e i h =
    let g : pin_place netlist k pin ≡ None = rw e at h in
    let w : is_within 1 (pins_at netlist k) pin ≡ false = by (is_within 1 (pins_at netlist k) pin) g in
    rw (e, i, w) refl
  where
    by : (b : Bool) → cond b (Some (9 + length netlist.names + start netlist k + (pin - 1))) None ≡ None → b ≡ false
    by true h = cc h
    by false h = refl

-- ---- the rows of a pin, a net and a kind are those with its place

pub pin_rows : (netlist : Netlist) (net pin k : ℕ) (what : Delayed) → net < length netlist.names → pin_place netlist net pin ≡ Some k → is_of_pin netlist net pin what ≡ is_at (delay_place netlist what) k
pin_rows netlist net pin k (ByKind cell) b h =
    let z = pin_place-is netlist net pin k h in let e : (cell_number cell == k) ≡ false = let x : cell_number cell < k = omega (arith, kind_below cell, z.2) in grind (arith, nat_tests) in sym e
pin_rows netlist net pin k (Net name) b h = same_test _ _ (λ t. cc t)
    (λ t. let x = net_placed netlist name k (is_at-true _ k t) in let z = pin_place-is netlist net pin k h in absurd (omega (arith, x.2, x.3, z.2)))
pin_rows netlist net pin k (Pin name place) b h = same_test _ _ (λ t. by (is_at (number_of netlist name) net) refl t) (λ t.
    let x = pin_placed netlist name place k (is_at-true _ k t) in
    let o = pin_one netlist x.0 place net pin k x.2 h in
    let e : is_at (number_of netlist name) net ≡ true = is_at-same _ net (x.1 ∙ ap Some o.0) in
    let f : place ≡ pin = o.1 in
    rw (e, f) (grind (arith, nat_tests)))
  where
    by : (a : Bool) → is_at (number_of netlist name) net ≡ a → (a && (place == pin)) ≡ true → is_at (delay_place netlist (Pin name place)) k ≡ true
    by true e t =
        let n : number_of netlist name ≡ Some net = is_at-true _ net e in
        let f : place ≡ pin = grind (arith, nat_tests) in
        is_at-same _ k (ap (λ o. option_and_then (λ m. pin_place netlist m place) o) n ∙ ap (λ p. pin_place netlist net p) f ∙ h)
    by false e t = cc t

pub net_rows : (netlist : Netlist) (net : ℕ) (what : Delayed) → net < length netlist.names → is_of_net netlist net what ≡ is_at (delay_place netlist what) (9 + net)
net_rows netlist net (ByKind cell) b = let e : (cell_number cell == 9 + net) ≡ false = let x : cell_number cell < 9 + net = omega (arith, kind_below cell) in grind (arith, nat_tests) in sym e
net_rows netlist net (Net name) b = same_test _ _
    (λ t. is_at-same _ (9 + net) (ap (λ o. option_map (λ m. 9 + m) o) (is_at-true _ net t)))
    (λ t. let x = net_placed netlist name (9 + net) (is_at-true _ (9 + net) t) in let e : x.0 ≡ net = omega (arith, x.2) in is_at-same _ net (x.1 ∙ ap Some e))
net_rows netlist net (Pin name place) b = same_test _ _ (λ t. cc t)
    (λ t. let x = pin_placed netlist name place (9 + net) (is_at-true _ (9 + net) t) in let z = pin_place-is netlist x.0 place (9 + net) x.2 in absurd (omega (arith, z.2)))

pub kind_rows : (netlist : Netlist) (cell : ℕ) (what : Delayed) → cell < 9 → is_of_kind (Some cell) what ≡ is_at (delay_place netlist what) cell
kind_rows netlist cell (ByKind other) b = same_test _ _ (λ t. grind (arith, nat_tests)) (λ t. grind (arith, nat_tests))
kind_rows netlist cell (Net name) b = same_test _ _ (λ t. cc t)
    (λ t. let x = net_placed netlist name cell (is_at-true _ cell t) in absurd (omega (arith, x.2)))
kind_rows netlist cell (Pin name place) b = same_test _ _ (λ t. cc t)
    (λ t. let x = pin_placed netlist name place cell (is_at-true _ cell t) in let z = pin_place-is netlist x.0 place cell x.2 in absurd (omega (arith, z.2)))

-- ---- where the pins of each net start

pub length-starts : (netlist : Netlist) (starts : List ℕ) → starts ≡ starts_of netlist → length starts ≡ length netlist.names
length-starts netlist starts h = ap length h ∙ length-map-range_with_len (start netlist) 0 (length netlist.names)

pub starts-at : (netlist : Netlist) (starts : List ℕ) (net : ℕ) → starts ≡ starts_of netlist → net < length netlist.names → get_or starts net 0 ≡ start netlist net
starts-at netlist starts net h b = ap (λ t. get_or t net 0) h ∙ get_or-map-range_with_len (start netlist) 0 (length netlist.names) net net 0 b (omega arith)

pub start_in : (netlist : Netlist) (net : ℕ) → net < length netlist.names → start netlist net + pins_at netlist net ≤ start netlist (length netlist.names)
start_in netlist net b = start_apart netlist net (length netlist.names) b

pub pin_place-at : (netlist : Netlist) (net pin : ℕ) → 1 ≤ pin → pin ≤ pins_at netlist net → pin_place netlist net pin ≡ Some (9 + length netlist.names + start netlist net + (pin - 1))
pin_place-at netlist net pin low high =
    let a : nat_le 1 pin ≡ true = grind (arith, nat_tests) in
    let b : nat_le pin (pins_at netlist net) ≡ true = grind (arith, nat_tests) in
    rw (a, b) refl

pub start-next : (netlist : Netlist) (net : ℕ) → start netlist (net + 1) ≡ start netlist net + pins_at netlist net
unfolding start
start-next netlist net = rw add-one refl
