-- A netlist of a closed set of nets: it is lawful, and read back by the set it is the part of the whole.
use Rattle.std.proofs.Common.{subst, ◌≢◌, ◌⊎◌, inl, inr, set, ◌≡◌, ℕ, zero, suc, ◌+◌, ◌<◌, ◌≤◌, List, [], ◌∷◌, ◌++◌, length, map, take, get_or, refl, sym, ap, ◌∙◌, arith, Bool, true, false, cond}
use Rattle.std.specs.Prelude.{if◌then◌else◌, All, Contains, nat_eq, bytes_eq}
use Rattle.std.specs.List.{IsDistinct, filter, list_any}
use Rattle.std.specs.List.Sorted.{IsStrictlyIncreasing}
use Rattle.std.proofs.lemmas.Bool.{cases_lt}
use Rattle.std.proofs.lemmas.Bool.Decides.{nat_tests}
use Rattle.std.proofs.lemmas.List.{append-nil, map-append, map_more, length-map, get_or-map, get_or_default, get_or-set_same, get_or-set_other, get_or-take, length-take}
use Rattle.std.proofs.lemmas.List.Elements.{All-contains, All-weaker, filter_more, All-map, All-filter, filter_passes, All-get_or}
use Rattle.std.proofs.lemmas.List.Folds.{list_any_none, list_any_at, Any-from_list_any}
use Rattle.std.proofs.lemmas.List.Kept.{AllPairs-from_increasing}
use Rattle.std.proofs.lemmas.Map.Keys.{apart_from_distinct, IsDistinct-from_apart}
use Rattle.std.specs.Cmp.Lexicographic.{nat_list_eq_equiv}
use Rattle.cmb_netlist.specs.declared.netlist.Driver.{Driver}
use Rattle.cmb_netlist.specs.declared.netlist.Driver.TheVariants.{Input, Gate, Flop}
use Rattle.cmb_netlist.proofs.Wired.{driver-wired}
use Rattle.cmb_netlist.specs.Netlist.{Netlist, IsNetlist, IsWired, MayTake, driver_of, name_of, pins_of}
use Rattle.cmb_design_model.proofs.RowFacts.{same_test}
use Rattle.cmb_cone.specs.Closed.{IsClosed, asked_by}
use Rattle.cmb_cone.specs.Inner.Places.{ArePlaces}
use Rattle.cmb_cone.specs.Restriction.{IsPart, is_among, with_nets}

-- ---- rising numbers

pub rising_apart : (xs : List ℕ) → IsStrictlyIncreasing xs → (i k : ℕ) → i < k → k < length xs → get_or xs i 0 < get_or xs k 0
rising_apart xs rises i k before within = AllPairs-from_increasing xs rises i k 0 before within

pub rising_high : (xs : List ℕ) → IsStrictlyIncreasing xs → (k : ℕ) → k < length xs → k ≤ get_or xs k 0
rising_high xs rises zero within = omega arith
rising_high xs rises (suc k) within =
    let before : k ≤ get_or xs k 0 = rising_high xs rises k (omega arith) in
    let next : get_or xs k 0 < get_or xs (suc k) 0 = rising_apart xs rises k (suc k) (omega arith) within in
    omega arith

-- rising numbers below another are no more than it
pub rising_few : (xs : List ℕ) (n : ℕ) → IsStrictlyIncreasing xs → All (λ x. x < n) xs → length xs ≤ n
rising_few xs n rises below = by (length xs) refl
  where
    by : (m : ℕ) → length xs ≡ m → length xs ≤ n
    by zero e = omega arith
    by (suc m) e =
        let high : m ≤ get_or xs m 0 = rising_high xs rises m (omega arith) in
        let low : get_or xs m 0 < n = below m 0 (omega arith) in
        omega arith

-- ---- numbers mapped there and back

pub map_back : {X Y : Type 0} (f : Y → X) (g : X → Y) (xs : List X) → All (λ x. f (g x) ≡ x) xs → map f (map g xs) ≡ xs
map_back f g [] back = refl
map_back f g (x ∷ xs) back =
    let here : f (g x) ≡ x = back 0 x (omega arith) in
    let rest : map f (map g xs) ≡ xs = map_back f g xs (λ k d within. back (suc k) d (omega arith)) in
    rw (here, rest) refl

pub map_through : {X Y Z : Type 0} (f : Y → Z) (g : X → Y) (h : X → Z) (xs : List X) → All (λ x. f (g x) ≡ h x) xs → map f (map g xs) ≡ map h xs
map_through f g h [] same = refl
map_through f g h (x ∷ xs) same =
    let here : f (g x) ≡ h x = same 0 x (omega arith) in
    let rest : map f (map g xs) ≡ map h xs = map_through f g h xs (λ k d within. same (suc k) d (omega arith)) in
    rw (here, rest) refl

pub among_contains : (nets : List ℕ) (net : ℕ) → is_among nets net ≡ true → Contains nets net
among_contains nets net h =
    let found = Any-from_list_any (nat_eq net) nets h in
    let same : net ≡ found.1 = let t : nat_eq net found.1 ≡ true = found.4 in grind (arith, nat_tests) in
    (found.0, found.2, get_or_default nets found.0 net found.1 found.2 ∙ found.3 ∙ sym same)

pub take_apart : {X : Type 0} (eq : X → X → Bool) (xs : List X) (i : ℕ) (d : X) → ((x y : X) → eq x y ≡ eq y x) → IsDistinct eq xs → i < length xs → All (λ x. eq (get_or xs i d) x ≡ false) (take i xs)
take_apart eq xs i d turned different within k e below =
    let long = length-take i xs in
    let before : k < i = omega (arith, below, long) in
    ap (eq (get_or xs i d)) (get_or-take i xs k e before) ∙ turned (get_or xs i d) (get_or xs k e) ∙ ap (λ y. eq (get_or xs k e) y) (get_or_default xs i d e within)
    ∙ apart_from_distinct eq xs k i e different before within

nat_eq-turned : (x y : ℕ) → nat_eq x y ≡ nat_eq y x
nat_eq-turned x y = grind (arith, nat_tests)

module _ (nets places : List ℕ) (are : ArePlaces nets places) where
  -- a net of the list stands at its place
  pub place_back : (net : ℕ) → Contains nets net → (get_or places net 0 < length nets) × (get_or nets (get_or places net 0) 0 ≡ net)
  place_back net there =
      let k : ℕ = there.0 in
      let here : get_or nets k 0 ≡ net = get_or_default nets k 0 net there.1 ∙ there.2 in
      let place : get_or places net 0 ≡ k = sym (ap (λ n. get_or places n 0) here) ∙ are.back k there.1 in
      (let within : k < length nets = there.1 in omega arith, ap (λ p. get_or nets p 0) place ∙ here)

  wired_part : (count : ℕ) (driver : Driver) → IsWired count driver → All (Contains nets) (pins_of driver) → IsWired (length nets) (with_nets (λ n. get_or places n 0) driver)
  wired_part count Input wired there = tt
  wired_part count (Gate kind operands) wired there =
      (subst (MayTake kind) (sym (length-map operands (λ n. get_or places n 0))) wired.0, All-map (λ p. p < length nets) (λ n. get_or places n 0) operands (λ k d within. (place_back (get_or operands k d) (there k d within)).0))
  wired_part count (Flop source) wired there = (place_back source (there 0 0 (omega arith))).0

  read_back : (driver : Driver) → All (Contains nets) (pins_of driver) → with_nets (λ n. get_or nets n 0) (with_nets (λ n. get_or places n 0) driver) ≡ driver
  read_back Input there = refl
  read_back (Gate kind operands) there = ap (Gate kind) (map_back (λ n. get_or nets n 0) (λ n. get_or places n 0) operands (λ k d within. (place_back (get_or operands k d) (there k d within)).1))
  read_back (Flop source) there = ap Flop (place_back source (there 0 0 (omega arith))).1

  -- a place that is given to an output hasn't been given before
  pub place_new : (outputs : List ℕ) (i : ℕ) → IsDistinct nat_eq outputs → i < length outputs → is_among nets (get_or outputs i 0) ≡ true
      → list_any (nat_eq (get_or places (get_or outputs i 0) 0)) (map (λ n. get_or places n 0) (filter (is_among nets) (take i outputs))) ≡ false
  place_new outputs i different within here =
      let net : ℕ = get_or outputs i 0 in
      let apart : All (λ x. nat_eq net x ≡ false) (filter (is_among nets) (take i outputs)) =
      All-filter (is_among nets) (λ x. nat_eq net x ≡ false) (take i outputs) (take_apart nat_eq outputs i 0 nat_eq-turned different within) in
      let kept = filter_passes (is_among nets) (take i outputs) in
      list_any_none (nat_eq (get_or places net 0)) _ (All-map (λ p. nat_eq (get_or places net 0) p ≡ false) (λ n. get_or places n 0) (filter (is_among nets) (take i outputs)) (λ k d below.
      let other : ℕ = get_or (filter (is_among nets) (take i outputs)) k d in
      let a : nat_eq net other ≡ false = apart k d below in
      let b : get_or nets (get_or places other 0) 0 ≡ other = (place_back other (among_contains nets other (kept k d below))).1 in
      let c : get_or nets (get_or places net 0) 0 ≡ net = (place_back net (among_contains nets net here)).1 in
      by net other (get_or places net 0) (get_or places other 0) a c b))
    where
      by : (x y p q : ℕ) → nat_eq x y ≡ false → get_or nets p 0 ≡ x → get_or nets q 0 ≡ y → nat_eq p q ≡ false
      by x y p q a c b = same_false (nat_eq p q) refl
        where
          same_false : (t : Bool) → nat_eq p q ≡ t → t ≡ false
          same_false true e =
              let f : p ≡ q = grind (arith, nat_tests) in
              let g : x ≡ y = sym c ∙ ap (λ n. get_or nets n 0) f ∙ b in
              let u : nat_eq x y ≡ true = grind (arith, nat_tests) in
              cc (a, u)
          same_false false e = refl

-- ---- names

pub map_step : {X : Type 0} (f : ℕ → X) (nets : List ℕ) (i : ℕ) (old new : List X) (x : X) → i < length nets → old ≡ map f (take i nets) → x ≡ f (get_or nets i 0) → new ≡ old ++ x ∷ [] → new ≡ map f (take (i + 1) nets)
map_step f nets i old new x within so_far e is = is ∙ ap (λ xs. xs ++ x ∷ []) so_far ∙ ap (λ y. map f (take i nets) ++ y ∷ []) e ∙ sym (map_more f nets i 0 within)

-- the name of a net of the list isn't that of one before it
pub names_more : (whole : Netlist) (nets : List ℕ) (i : ℕ) (old new : List (List ℕ)) (name : List ℕ) → IsNetlist whole → IsClosed whole nets → i < length nets
    → old ≡ map (name_of whole) (take i nets) → name ≡ name_of whole (get_or nets i 0) → new ≡ (if list_any (bytes_eq name) old then old else old ++ name ∷ []) → new ≡ map (name_of whole) (take (i + 1) nets)
names_more whole nets i old new name lawful closed within so_far e is =
    let none : list_any (bytes_eq name) old ≡ false =
    ap (list_any (bytes_eq name)) so_far ∙ ap (λ n. list_any (bytes_eq n) (map (name_of whole) (take i nets))) e
    ∙ list_any_none (bytes_eq (name_of whole (get_or nets i 0))) _ (All-map (λ n. bytes_eq (name_of whole (get_or nets i 0)) n ≡ false) (name_of whole) (take i nets) (λ k d below.
    let long = length-take i nets in
    let before : k < i = omega (arith, below, long) in
    let a : get_or (take i nets) k d ≡ get_or nets k 0 = get_or-take i nets k d before ∙ get_or_default nets k d 0 (omega arith) in
    let less : get_or nets k 0 < get_or nets i 0 = rising_apart nets closed.rising k i before within in
    let b = apart_from_distinct bytes_eq whole.names (get_or nets k 0) (get_or nets i 0) [] lawful.different_names less (closed.within i 0 within) in
    rw a (nat_list_eq_equiv.symm (name_of whole (get_or nets i 0)) (name_of whole (get_or nets k 0)) ∙ b))) in
    map_step (name_of whole) nets i old new name within so_far e (is ∙ ap (λ b. if b then old else old ++ name ∷ []) none)

-- ---- the whole of it

module _ (whole : Netlist) (nets places : List ℕ) (lawful : IsNetlist whole) (closed : IsClosed whole nets) (are : ArePlaces nets places)
    (part : Netlist) (names : part.names ≡ map (name_of whole) nets)
    (drivers : part.drivers ≡ map (λ net. with_nets (λ n. get_or places n 0) (driver_of whole net)) nets)
    (outputs : part.outputs ≡ map (λ n. get_or places n 0) (filter (is_among nets) whole.outputs)) (distinct : IsDistinct nat_eq part.outputs) where
  pins_there : All (λ net. All (Contains nets) (pins_of (driver_of whole net))) nets
  pins_there = closed.closed

  outputs_there : All (Contains nets) (filter (is_among nets) whole.outputs)
  outputs_there k d within = among_contains nets _ (filter_passes (is_among nets) whole.outputs k d within)

  pub part_of : IsPart whole nets part
  part_of = record {
    names = names;
    drivers = ap (map (with_nets (λ n. get_or nets n 0))) drivers
        ∙ map_through (with_nets (λ n. get_or nets n 0)) (λ net. with_nets (λ n. get_or places n 0) (driver_of whole net)) (driver_of whole) nets
        (λ k d within. read_back nets places are (driver_of whole (get_or nets k d)) (pins_there k d within));
    outputs = ap (map (λ n. get_or nets n 0)) outputs
        ∙ map_back (λ n. get_or nets n 0) (λ n. get_or places n 0) (filter (is_among nets) whole.outputs) (λ k d within. (place_back nets places are _ (outputs_there k d within)).1);
  }

  long : length part.names ≡ length nets
  long = ap length names ∙ length-map nets (name_of whole)

  pub part_lawful : IsNetlist part
  part_lawful = record {
    paired = ap length drivers ∙ length-map nets (λ net. with_nets (λ n. get_or places n 0) (driver_of whole net)) ∙ sym long;
    few = let a : length nets ≤ length whole.names = rising_few nets (length whole.names) closed.rising closed.within in omega (arith, lawful.few, long);
    short_names = let P : List (List ℕ) → Type 0 = λ ns. All (λ name. length name ≤ 255) ns in
        subst P (sym names) (All-map (λ name. length name ≤ 255) (name_of whole) nets (λ k d within. All-get_or (λ name. length name ≤ 255) whole.names (get_or nets k d) [] (closed.within k d within) lawful.short_names));
    different_names = let P : List (List ℕ) → Type 0 = λ ns. IsDistinct bytes_eq ns in
        subst P (sym names) (IsDistinct-from_apart bytes_eq (map (name_of whole) nets) (λ i k d before within.
        let n = length-map nets (name_of whole) in
        let high : k < length nets = omega (arith, within, n) in
        let low : i < length nets = omega arith in
        let a : get_or (map (name_of whole) nets) i d ≡ name_of whole (get_or nets i 0) = get_or-map (name_of whole) nets i 0 d low in
        let b : get_or (map (name_of whole) nets) k d ≡ name_of whole (get_or nets k 0) = get_or-map (name_of whole) nets k 0 d high in
        let less : get_or nets i 0 < get_or nets k 0 = rising_apart nets closed.rising i k before high in
        rw (a, b) (apart_from_distinct bytes_eq whole.names (get_or nets i 0) (get_or nets k 0) [] lawful.different_names less (closed.within k 0 high))));
    wired = let P : ℕ → List Driver → Type 0 = λ n ds. All (IsWired n) ds in
        rw long (subst (P (length nets)) (sym drivers) (All-map (IsWired (length nets)) (λ net. with_nets (λ n. get_or places n 0) (driver_of whole net)) nets
        (λ k d within. wired_part nets places are (length whole.names) (driver_of whole (get_or nets k d))
        (driver-wired whole lawful (get_or nets k d)) (pins_there k d within))));
    outputs = let P : List ℕ → Type 0 = λ os. All (λ net. net < length nets) os in
        rw long (subst P (sym outputs) (All-map (λ net. net < length nets) (λ n. get_or places n 0) (filter (is_among nets) whole.outputs) (λ k d within. (place_back nets places are _ (outputs_there k d within)).0)));
    different_outputs = distinct;
  }

-- ---- the loops

-- whether a net is in the list is told by its place
pub among_here : (nets places : List ℕ) (net : ℕ) → ArePlaces nets places → get_or places net 0 < length nets → nat_eq (get_or nets (get_or places net 0) 0) net ≡ is_among nets net
among_here nets places net are within = same_test _ _
    (λ h. let e : nat_eq net (get_or nets (get_or places net 0) 0) ≡ true = nat_eq-turned net (get_or nets (get_or places net 0) 0) ∙ h in list_any_at (nat_eq net) nets (get_or places net 0) 0 within e)
    (λ h. let e : get_or nets (get_or places net 0) 0 ≡ net = (place_back nets places are net (among_contains nets net h)).1 in grind (arith, nat_tests))

pub among_not : (nets places : List ℕ) (net : ℕ) → ArePlaces nets places → length nets ≤ get_or places net 0 → false ≡ is_among nets net
among_not nets places net are past = same_test _ _ (λ h. cc h)
    (λ h. let l : get_or places net 0 < length nets = (place_back nets places are net (among_contains nets net h)).0 in absurd (omega arith))

pub places_more : (nets places : List ℕ) (count i : ℕ) → IsStrictlyIncreasing nets → All (λ net. net < count) nets → length places ≡ count → i < length nets
    → ((k : ℕ) → k < i → get_or places (get_or nets k 0) 0 ≡ k) → (k : ℕ) → k < i + 1 → get_or (set places (get_or nets i 0) i) (get_or nets k 0) 0 ≡ k
places_more nets places count i rising below long within back k before = by (cases_lt k i)
  where
    here : get_or nets i 0 < length places
    here = let l : get_or nets i 0 < count = below i 0 within in omega arith

    by : (k < i) ⊎ (i ≤ k) → get_or (set places (get_or nets i 0) i) (get_or nets k 0) 0 ≡ k
    by (inl l) =
        let less : get_or nets k 0 < get_or nets i 0 = rising_apart nets rising k i l within in
        let ne : get_or nets k 0 ≢ get_or nets i 0 = omega arith in
        get_or-set_other places (get_or nets i 0) (get_or nets k 0) i 0 ne ∙ back k l
    by (inr l) =
        let e : k ≡ i = omega arith in
        ap (λ n. get_or (set places (get_or nets i 0) i) (get_or nets n 0) 0) e ∙ get_or-set_same places (get_or nets i 0) i 0 here ∙ sym e

pub pins_known : (whole : Netlist) (nets places : List ℕ) (i : ℕ) (read : Driver) → IsClosed whole nets → length places ≡ length whole.names → i < length nets → read ≡ driver_of whole (get_or nets i 0)
    → All (λ pin. pin < length places) (pins_of read)
pins_known whole nets places i read closed long within e =
    let P : Driver → Type 0 = λ d. All (λ pin. pin < length places) (pins_of d) in
    subst P (sym e) (All-weaker (Contains nets) (λ pin. pin < length places)
    (λ pin there. let l : pin < length whole.names = All-contains (λ net. net < length whole.names) nets pin closed.within there in omega (arith, long))
    (asked_by whole (get_or nets i 0)) (closed.closed i 0 within))

pub output_known : (whole : Netlist) (places all : List ℕ) (i : ℕ) → IsNetlist whole → length places ≡ length whole.names → all ≡ whole.outputs → i < length all → get_or all i 0 < length places
output_known whole places all i lawful long e within =
    let P : List ℕ → Type 0 = λ xs. All (λ net. net < length whole.names) xs in
    let l : get_or all i 0 < length whole.names = (subst P (sym e) lawful.outputs) i 0 within in
    omega (arith, long)

pub output_yes : (nets places all old new : List ℕ) (i : ℕ) → ArePlaces nets places → IsDistinct nat_eq all → i < length all → is_among nets (get_or all i 0) ≡ true
    → old ≡ map (λ n. get_or places n 0) (filter (is_among nets) (take i all))
    → new ≡ (if list_any (nat_eq (get_or places (get_or all i 0) 0)) old then old else old ++ get_or places (get_or all i 0) 0 ∷ [])
    → new ≡ map (λ n. get_or places n 0) (filter (is_among nets) (take (i + 1) all))
output_yes nets places all old new i are different within here so_far is =
    let p : ℕ = get_or places (get_or all i 0) 0 in
    let none = ap (list_any (nat_eq p)) so_far ∙ place_new nets places are all i different within here in
    is ∙ ap (λ b. if b then old else old ++ p ∷ []) none ∙ ap (λ xs. xs ++ p ∷ []) so_far
    ∙ sym (ap (map (λ n. get_or places n 0)) (filter_more (is_among nets) all i 0 within ∙ ap (λ b. filter (is_among nets) (take i all) ++ cond b (get_or all i 0 ∷ []) []) here)
    ∙ map-append (λ n. get_or places n 0) (filter (is_among nets) (take i all)) (get_or all i 0 ∷ []))

pub output_no : (nets places all old new : List ℕ) (i : ℕ) → i < length all → is_among nets (get_or all i 0) ≡ false
    → old ≡ map (λ n. get_or places n 0) (filter (is_among nets) (take i all)) → new ≡ old
    → new ≡ map (λ n. get_or places n 0) (filter (is_among nets) (take (i + 1) all))
output_no nets places all old new i within here so_far is =
    is ∙ so_far
    ∙ sym (ap (map (λ n. get_or places n 0)) (filter_more (is_among nets) all i 0 within ∙ ap (λ b. filter (is_among nets) (take i all) ++ cond b (get_or all i 0 ∷ []) []) here ∙ append-nil (filter (is_among nets) (take i all))))

pub nets_few : (whole : Netlist) (nets : List ℕ) → IsClosed whole nets → length whole.names ≤ 65535 → length nets ≤ 65535
nets_few whole nets closed few = let l = rising_few nets (length whole.names) closed.rising closed.within in omega arith
