-- Arrivals, and one net more that is settled.
use Rattle.std.proofs.Common.{◌≡◌, ◌≢◌, ◌⊎◌, inl, inr, ℕ, ◌+◌, ◌*◌, ◌<◌, ◌≤◌, Bool, true, false, List, length, get_or, replicate, set, refl, sym, ap, subst, ◌∙◌, arith}
use Rattle.std.proofs.Common.{if◌then◌else◌}
use Rattle.std.proofs.lemmas.Bool.{cases_eq, cases_lt}
use Rattle.std.proofs.lemmas.List.{get_or_default, get_or_past, get_or-replicate, get_or-set_same, get_or-set_other, length-replicate, length-set}
use Rattle.std.proofs.lemmas.List.Elements.{All-get_or}
use Rattle.cmb_netlist.specs.Netlist.{IsNetlist}
use Rattle.cmb_design_model.specs.Design.{Design}
use Rattle.cmb_design_model.specs.Timing.{delay}
use Rattle.cmb_count.specs.Inner.Arrivals.{AreArrivals, AreComponents, AreSettled, Covers, IsArrivalAt, IsEndless, IsReached, IsSettled, IsWithin, closed, endless, launched, later_by, time_of}
use Rattle.cmb_count.specs.Paths.{Arrives, Path, here, on, is_origin, launch, operands}
use Rattle.cmb_count.specs.declared.arrivals.Arrival.{Arrival}
use Rattle.cmb_count.specs.declared.arrivals.Arrival.TheVariants.{Never, At, Unbounded}
use Rattle.cmb_count.specs.declared.components.Components.{Components}
use Rattle.cmb_count.specs.declared.components.Ranked.{Ranked}
use Rattle.cmb_count.specs.declared.paths.Between.{Between}
use Rattle.cmb_count.proofs.PathFacts.{alone, gate_within, lower, reached_endless, together}

-- ---- arrivals

pub covers_later : (a : Arrival) (t d : ℕ) → Covers a t → Covers (later_by a d) (t + d)
covers_later Never t d h = h
covers_later (At u) t d h = omega (arith, h)
covers_later Unbounded t d h = tt

covers_closed : (b : Bool) (a : Arrival) (t : ℕ) → Covers a t → Covers (closed b a) t
covers_closed false a t h = h
covers_closed true Never t h = h
covers_closed true (At u) t h = tt
covers_closed true Unbounded t h = tt

endless_is : (a : Arrival) → IsEndless (endless a)
endless_is Never = tt
endless_is (At t) = tt
endless_is Unbounded = tt

endless-covers : (a : Arrival) (t u : ℕ) → IsEndless a → Covers a t → Covers a u
endless-covers Never t u e h = h
endless-covers (At s) t u e h = absurd e
endless-covers Unbounded t u e h = tt

endless-within : (most : ℕ) (a : Arrival) → IsWithin most (endless a)
endless-within most Never = tt
endless-within most (At t) = tt
endless-within most Unbounded = tt

pub within_later : (a : Arrival) (m c d : ℕ) → IsWithin ((m + 1) * 1000000) a → m < c → d ≤ 1000000 → IsWithin ((c + 1) * 1000000) (later_by a d)
within_later Never m c d w less small = tt
within_later (At t) m c d w less small = omega (arith, w)
within_later Unbounded m c d w less small = tt

pub within_more : (a : Arrival) (most more : ℕ) → most ≤ more → IsWithin most a → IsWithin more a
within_more Never most more l w = tt
within_more (At t) most more l w = omega (arith, w)
within_more Unbounded most more l w = tt

-- what comes to an operand comes through its pin
pub arrive_through : (design : Design) (between : Between) (gate k t : ℕ) → k < length (operands design.netlist gate)
    → Arrives design between (get_or (operands design.netlist gate) k 0) t → Arrives design between gate (t + delay design gate (k + 1))
arrive_through design between gate k t within a = record {
  from = a.from;
  after = a.after + delay design gate (k + 1);
  within = a.within;
  origin = a.origin;
  path = on gate k within a.path;
  sum = omega (arith, a.sum);
}

pub reached_through : (design : Design) (between : Between) (gate k : ℕ) (a : Arrival) → k < length (operands design.netlist gate)
    → IsReached (Arrives design between (get_or (operands design.netlist gate) k 0)) a → IsReached (Arrives design between gate) (later_by a (delay design gate (k + 1)))
reached_through design between gate k Never within h = tt
reached_through design between gate k (At t) within h = arrive_through design between gate k t within h
reached_through design between gate k Unbounded within h = λ n.
    let some = h n in
    let l : n ≤ some.0 = some.1 in
    (some.0 + delay design gate (k + 1), omega arith, arrive_through design between gate k some.0 within some.2)

-- what begins at a net
pub launch_reached : (design : Design) (between : Between) (net : ℕ) → net < length design.netlist.names → IsReached (Arrives design between net) (launched between design net)
launch_reached design between net low = by (is_origin between design net) refl
  where
    by : (b : Bool) → is_origin between design net ≡ b → IsReached (Arrives design between net) (if b then At (launch design net) else Never)
    by true e = record { from = net; after = 0; within = low; origin = e; path = here; sum = omega arith }
    by false e = tt

pub launch_covers : (design : Design) (between : Between) (net : ℕ) → is_origin between design net ≡ true → Covers (launched between design net) (launch design net)
launch_covers design between net e =
    let same : launch design net ≤ launch design net = omega arith in
    subst (λ (b : Bool). Covers (if b then At (launch design net) else Never) (launch design net)) (sym e) same

-- ---- one net more

module _ (design : Design) (between : Between) (components : Components) (times : List Arrival) (count x : ℕ) (at : Ranked) (a new : Arrival)
    (sound : IsNetlist design.netlist) (are : AreComponents design.netlist components) (old : AreSettled design between components times count)
    (inside : count < length components.order.items) (is : x ≡ (get_or components.order.items count at).net)
    (arrival : IsArrivalAt design between components.numbers.items times x a)
    (grows : (t : ℕ) → Covers (get_or times (get_or components.numbers.items x 0) Never) t → Covers new t)
    (covers : (t : ℕ) → Covers (closed (get_or components.loops.items x false) a) t → Covers new t)
    (either : (new ≡ get_or times (get_or components.numbers.items x 0) Never) ⊎ (new ≡ closed (get_or components.loops.items x false) a)) where
  abbrev num : ℕ → ℕ
  num m = get_or components.numbers.items m 0

  abbrev loops : List Bool
  loops = components.loops.items

  abbrev was : ℕ → Arrival
  was m = time_of components.numbers.items times m

  abbrev times' : List Arrival
  times' = set times (get_or components.numbers.items x 0) new

  abbrev now : ℕ → Arrival
  now m = time_of components.numbers.items times' m

  placed : (j : ℕ) (d : Ranked) → j < length components.order.items
      → ((get_or components.order.items j d).net < length design.netlist.names) × ((get_or components.order.items j d).number ≡ num (get_or components.order.items j d).net)
  placed j d h = let e = are.order.each j d h in (omega (arith, e.0, are.parts.nets), e.1)

  low : x < length design.netlist.names
  low = subst (λ (m : ℕ). m < length design.netlist.names) (sym is) (placed count at inside).0

  number_low : num x < length times
  number_low =
      let b = All-get_or (λ number. number < length design.netlist.names) components.numbers.items x 0 (let l = low in omega (arith, l, are.parts.nets)) are.parts.below in
      omega (arith, b, old.long)

  now_x : now x ≡ new
  now_x = get_or-set_same times (num x) new Never number_low

  state : (m : ℕ) → ((num m ≡ num x) × (now m ≡ new)) ⊎ (now m ≡ was m)
  state m = by (cases_eq (num m) (num x))
    where
      by : (num m ≡ num x) ⊎ (num m ≢ num x) → ((num m ≡ num x) × (now m ≡ new)) ⊎ (now m ≡ was m)
      by (inl e) = inl (e, ap (λ (k : ℕ). get_or times' k Never) e ∙ now_x)
      by (inr ne) = inr (get_or-set_other times (num x) (num m) new Never ne)

  grown : (m t : ℕ) → Covers (was m) t → Covers (now m) t
  grown m t h = by (state m)
    where
      by : ((num m ≡ num x) × (now m ≡ new)) ⊎ (now m ≡ was m) → Covers (now m) t
      by (inl s) = subst (λ (b : Arrival). Covers b t) (sym s.1) (grows t (subst (λ (k : ℕ). Covers (get_or times k Never) t) s.0 h))
      by (inr s) = subst (λ (b : Arrival). Covers b t) (sym s) h

  unmoved : (m : ℕ) → num m < num x → now m ≡ was m
  unmoved m less = get_or-set_other times (num x) (num m) new Never (let ne : num m ≢ num x = omega (arith, less) in ne)

  reached_closed : (m : ℕ) → m < length design.netlist.names → num m ≡ num x → IsReached (Arrives design between m) (closed (get_or loops x false) a)
  reached_closed m h same = by (get_or loops x false) refl
    where
      by : (b : Bool) → get_or loops x false ≡ b → IsReached (Arrives design between m) (closed b a)
      by true e = reached_endless design between x m a (are.loops.loops x low e) (are.parts.together m x h low same) (arrival.reached old.reached)
      by false e =
          subst (λ (k : ℕ). IsReached (Arrives design between k) a) (sym (alone design.netlist components.numbers.items loops are.parts are.loops m x h low same e))
          (arrival.reached old.reached)

  reached_more : (m : ℕ) → m < length design.netlist.names → IsReached (Arrives design between m) (now m)
  reached_more m h = by (state m) either
    where
      by : ((num m ≡ num x) × (now m ≡ new)) ⊎ (now m ≡ was m) → (new ≡ was x) ⊎ (new ≡ closed (get_or loops x false) a) → IsReached (Arrives design between m) (now m)
      by (inl s) (inl e) = subst (IsReached (Arrives design between m)) (sym (s.1 ∙ e ∙ sym (ap (λ (k : ℕ). get_or times k Never) s.0))) (old.reached m h)
      by (inl s) (inr e) = subst (IsReached (Arrives design between m)) (sym (s.1 ∙ e)) (reached_closed m h s.0)
      by (inr s) o = subst (IsReached (Arrives design between m)) (sym s) (old.reached m h)

  within_new : IsWithin ((num x + 1) * 1000000) new
  within_new = by either
    where
      close : (b : Bool) → get_or loops x false ≡ b → IsWithin ((num x + 1) * 1000000) (closed b a)
      close true e = endless-within ((num x + 1) * 1000000) a
      close false e = arrival.small (λ k h. lower design.netlist components.numbers.items loops are.parts are.loops sound x k h e)

      by : (new ≡ was x) ⊎ (new ≡ closed (get_or loops x false) a) → IsWithin ((num x + 1) * 1000000) new
      by (inl e) = subst (IsWithin ((num x + 1) * 1000000)) (sym e) (old.within (num x))
      by (inr e) = subst (IsWithin ((num x + 1) * 1000000)) (sym e) (close (get_or loops x false) refl)

  within_number : (number : ℕ) → IsWithin ((number + 1) * 1000000) (get_or times' number Never)
  within_number number = by (cases_eq number (num x))
    where
      by : (number ≡ num x) ⊎ (number ≢ num x) → IsWithin ((number + 1) * 1000000) (get_or times' number Never)
      by (inl e) = subst (λ (k : ℕ). IsWithin ((k + 1) * 1000000) (get_or times' k Never)) (sym e) (subst (IsWithin ((num x + 1) * 1000000)) (sym now_x) within_new)
      by (inr ne) = subst (IsWithin ((number + 1) * 1000000)) (sym (get_or-set_other times (num x) number new Never ne)) (old.within number)

  endless_more : (m : ℕ) → m < length design.netlist.names → get_or loops m false ≡ true → IsEndless (now m)
  endless_more m h marked = by (state m) either
    where
      by : ((num m ≡ num x) × (now m ≡ new)) ⊎ (now m ≡ was m) → (new ≡ was x) ⊎ (new ≡ closed (get_or loops x false) a) → IsEndless (now m)
      by (inl s) (inl e) = subst IsEndless (sym (s.1 ∙ e ∙ sym (ap (λ (k : ℕ). get_or times k Never) s.0))) (old.endless m h marked)
      by (inl s) (inr e) =
          let there = together design.netlist components.numbers.items loops are.parts are.loops m x h low s.0 marked in
          subst IsEndless (sym (s.1 ∙ e ∙ ap (λ (b : Bool). closed b a) there)) (endless_is a)
      by (inr s) o = subst IsEndless (sym s) (old.endless m h marked)

  settled_before : (m : ℕ) → num m ≤ num x → IsSettled design between components.numbers.items times m → IsSettled design between components.numbers.items times' m
  settled_before m l s = record {
    launched = λ o. grown m (launch design m) (s.launched o);
    relaxed = λ k t h less c.
        grown m (t + delay design m (k + 1))
        (s.relaxed k t h less (subst (λ (b : Arrival). Covers b t) (unmoved (get_or (operands design.netlist m) k 0) (let g : num (get_or (operands design.netlist m) k 0) < num x = omega (arith, less, l) in g)) c));
  }

  settled_here : IsSettled design between components.numbers.items times' x
  settled_here = record {
    launched = λ o. subst (λ (b : Arrival). Covers b (launch design x)) (sym now_x) (covers (launch design x) (covers_closed (get_or loops x false) a (launch design x) (arrival.launched o)));
    relaxed = λ k t h less c.
        subst (λ (b : Arrival). Covers b (t + delay design x (k + 1))) (sym now_x)
        (covers (t + delay design x (k + 1)) (covers_closed (get_or loops x false) a (t + delay design x (k + 1))
        (arrival.relaxed k t h (subst (λ (b : Arrival). Covers b t) (unmoved (get_or (operands design.netlist x) k 0) less) c))));
  }

  settled_all : (j : ℕ) (d : Ranked) → j < count + 1 → IsSettled design between components.numbers.items times' (get_or components.order.items j d).net
  settled_all j d h = by (cases_lt j count)
    where
      here_is : x ≡ (get_or components.order.items count d).net
      here_is = is ∙ ap (λ (r : Ranked). r.net) (get_or_default components.order.items count at d inside)

      by : (j < count) ⊎ (count ≤ j) → IsSettled design between components.numbers.items times' (get_or components.order.items j d).net
      by (inl early) =
          let up = are.order.rising j count d (omega (arith, early)) inside in
          let one = (placed j d (omega (arith, early, inside))).1 in
          let other = (placed count d inside).1 ∙ ap num (sym here_is) in
          settled_before (get_or components.order.items j d).net (omega (arith, up, one, other)) (old.settled j d early)
      by (inr late) =
          let same : count ≡ j = omega (arith, late, h) in
          subst (λ (k : ℕ). IsSettled design between components.numbers.items times' (get_or components.order.items k d).net) same
          (subst (IsSettled design between components.numbers.items times') here_is settled_here)

  pub settled_more : AreSettled design between components times' (count + 1)
  settled_more = record {
    long = length-set times (num x) new ∙ old.long;
    reached = reached_more;
    within = within_number;
    endless = endless_more;
    settled = settled_all;
  }

-- none is settled yet
pub none_settled : (design : Design) (between : Between) (components : Components) → AreSettled design between components (replicate (length design.netlist.names) Never) 0
none_settled design between components = record {
  long = length-replicate (length design.netlist.names) Never;
  reached = λ net low. subst (IsReached (Arrives design between net)) (sym (never (get_or components.numbers.items net 0))) tt;
  within = λ number. subst (IsWithin ((number + 1) * 1000000)) (sym (never number)) tt;
  endless = λ net low marked. subst IsEndless (sym (never (get_or components.numbers.items net 0))) tt;
  settled = λ j d h. absurd (omega (arith, h));
}
  where
    never : (k : ℕ) → get_or (replicate (length design.netlist.names) Never) k Never ≡ Never
    never k = by (cases_lt k (length design.netlist.names))
      where
        by : (k < length design.netlist.names) ⊎ (length design.netlist.names ≤ k) → get_or (replicate (length design.netlist.names) Never) k Never ≡ Never
        by (inl l) = get_or-replicate (length design.netlist.names) k Never Never l
        by (inr g) = get_or_past (replicate (length design.netlist.names) Never) k Never (omega (arith, length-replicate (length design.netlist.names) Never))

-- ---- all nets

module _ (design : Design) (between : Between) (components : Components) (times : List Arrival)
    (sound : IsNetlist design.netlist) (are : AreComponents design.netlist components) (done : AreSettled design between components times (length components.order.items)) where
  abbrev time : ℕ → Arrival
  time m = time_of components.numbers.items times m

  settled_at : (m : ℕ) → m < length design.netlist.names → IsSettled design between components.numbers.items times m
  settled_at m low =
      let r = are.order.whole m (omega (arith, low, are.parts.nets)) in
      subst (λ (k : Ranked). IsSettled design between components.numbers.items times k.net) r.2 (done.settled r.0 (record { number = get_or components.numbers.items m 0; net = m }) r.1)

  through : (from gate k ticks : ℕ) → k < length (operands design.netlist gate) → Covers (time (get_or (operands design.netlist gate) k 0)) (launch design from + ticks)
      → Covers (time gate) (launch design from + (ticks + delay design gate (k + 1)))
  through from gate k ticks h before = by (cases_lt (get_or components.numbers.items operand 0) (get_or components.numbers.items gate 0)) (get_or components.loops.items gate false) refl
    where
      operand : ℕ
      operand = get_or (operands design.netlist gate) k 0

      inside : gate < length design.netlist.names
      inside = gate_within design.netlist gate k sound h

      e : (launch design from + ticks) + delay design gate (k + 1) ≡ launch design from + (ticks + delay design gate (k + 1))
      e = omega arith

      by : (get_or components.numbers.items operand 0 < get_or components.numbers.items gate 0) ⊎ (get_or components.numbers.items gate 0 ≤ get_or components.numbers.items operand 0)
          → (b : Bool) → get_or components.loops.items gate false ≡ b → Covers (time gate) (launch design from + (ticks + delay design gate (k + 1)))
      by (inl less) b loop = subst (λ (t : ℕ). Covers (time gate) t) e ((settled_at gate inside).relaxed k (launch design from + ticks) h less before)
      by (inr more) false loop =
          let less = lower design.netlist components.numbers.items components.loops.items are.parts are.loops sound gate k h loop in absurd (omega (arith, less, more))
      by (inr more) true loop =
          let falls = All-get_or (λ target. get_or components.numbers.items target 0 ≤ get_or components.numbers.items gate 0) (operands design.netlist gate) k 0 h (are.parts.falls gate inside) in
          let same : get_or components.numbers.items operand 0 ≡ get_or components.numbers.items gate 0 = omega (arith, more, falls) in
          endless-covers (time gate) (launch design from + ticks) (launch design from + (ticks + delay design gate (k + 1))) (done.endless gate inside loop)
          (subst (λ (n : ℕ). Covers (get_or times n Never) (launch design from + ticks)) same before)

  covered : (from net after : ℕ) → from < length design.netlist.names → is_origin between design from ≡ true → Path design from net after
      → Covers (time net) (launch design from + after)
  covered from net after inside origin here =
      let e : launch design from ≡ launch design from + 0 = omega arith in
      subst (λ (t : ℕ). Covers (time from) t) e ((settled_at from inside).launched origin)
  covered from net after inside origin (on {ticks} gate k h q) = through from gate k ticks h (covered from (get_or (operands design.netlist gate) k 0) ticks inside origin q)

  pub all_arrive : AreArrivals design between components.numbers.items times
  all_arrive net low = (done.reached net low, λ ticks a. subst (λ (t : ℕ). Covers (time net) t) (sym a.sum) (covered a.from net a.after a.within a.origin a.path))
