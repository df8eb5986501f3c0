-- Which flip-flops are told ahead.
use Rattle.std.proofs.Common.{◌≡◌, ℕ, zero, suc, ◌+◌, ◌-◌, ◌%◌, ◌==◌, ◌&&◌, ◌<◌, ◌≤◌, ◌⊎◌, inl, inr, Bool, true, false, List, [], ◌∷◌, ◌++◌, length, get_or, take, refl, sym, ap, ap₂, subst, ◌∙◌, arith}
use Rattle.std.specs.Prelude.{◌↔◌, All, Contains, nat_le}
use Rattle.std.proofs.lemmas.Bool.{cases_Bool, cases_lt, false≢true}
use Rattle.std.proofs.lemmas.List.{append-nil}
use Rattle.std.proofs.lemmas.Option.{get_or_from_slice_get, slice_get_within}
use Rattle.std.proofs.lemmas.List.Elements.{All-contains, Contains-get_or, Contains-append_cases, Contains-append_left, Contains-append_right, Contains-push_cases, Contains-push}
use Rattle.cmb_netlist.specs.Netlist.{driver_of}
use Rattle.cmb_netlist.specs.declared.netlist.Driver.{Driver}
use Rattle.cmb_netlist.specs.declared.netlist.Driver.TheVariants as driver
use Rattle.cmb_netlist.specs.declared.netlist.Driver.TheVariants.{Input}
use Rattle.cmb_design_model.specs.Design.{Design}
use Rattle.cmb_design_model.specs.Exact.{nets_of}
use Rattle.cmb_design_model.specs.Nets.{is_flop as is_flop_driver}
use Rattle.cmb_design_model.specs.Timing.{delay}
use Rattle.cmb_design_model.specs.Value.{value}
use Rattle.cmb_words.specs.declared.changed.Changed.{Changed}
use Rattle.cmb_engine.specs.Inner.Planes.{Planes}
use Rattle.cmb_words.specs.Changes.{TellsNet}
use Rattle.cmb_words.proofs.StillFacts.{still-agrees}
use Rattle.cmb_words.proofs.TellsFacts.{tells-same}
use Rattle.cmb_design_model.specs.declared.rows.Clock.{Clock}
use Rattle.cmb_engine.specs.Crossings.{IsCrossing, IsWithinLookahead}
use Rattle.cmb_engine.specs.Rows.{arrives as arrives_at, arrives_by}
use Rattle.cmb_engine.specs.Shares.{IsDriven, TellsThose}
use Rattle.cmb_engine.specs.Inner.Cells.{Cell, Told, Gate, Flop, cell_at, is_flop, is_made}
use Rattle.cmb_engine.specs.Inner.Circuits.{AreFlops, IsFlopOf, IsGroup, Shows}
use Rattle.cmb_engine.specs.Inner.Exports.{slots_of, AddsAhead, AddsSlots, AreTakenBefore}
use Rattle.cmb_engine.specs.Inner.Plans.{cell_as, cell_by, cell_in, CellStandsFor, StandsFor}
use Rattle.cmb_engine.specs.Inner.Roles.{driven_of, drives, role_of, AreOf}
use Rattle.cmb_engine.specs.Inner.States.{IsCircuit}
use Rattle.cmb_engine.specs.Inner.Traces.{trace_of}
use Rattle.cmb_engine.specs.Inner.Words.{levels_of}
use Rattle.cmb_engine.specs.declared.cell.Pin.{Pin}
use Rattle.cmb_engine.specs.declared.circuit.Circuit.{Circuit}
use Rattle.cmb_engine.specs.declared.group.Group.{Group}
use Rattle.cmb_engine.specs.declared.role.Role.{Role}
use Rattle.cmb_engine.proofs.AheadFacts.{slots_of-more, slots_of-push}
use Rattle.cmb_engine.proofs.GroupFacts.{group-flops}
use Rattle.cmb_engine.proofs.NoteFacts.{taken-before, taken-cases, taken-last}
use Rattle.cmb_engine.proofs.RoleFacts.{driven-at, driven-is, driven-known, driven-net, level-present}
use Rattle.cmb_engine.proofs.SlotFacts.{trace-net}

-- of some numbers those are listed that are marked
abbrev pub AreMarkedOf : (ℕ → Bool) → List ℕ → List ℕ → Type 0
AreMarkedOf marked numbers listed = (number : ℕ) → Contains listed number ↔ (Contains numbers number × (marked number ≡ true))

module _ (marked : ℕ → Bool) where
  pub marked-none : AreMarkedOf marked [] []
  marked-none number = (λ among. absurd (omega (arith, among.1)), λ h. absurd (omega (arith, h.0.1)))

  pub marked-both : (first second early late : List ℕ) → AreMarkedOf marked first early → AreMarkedOf marked second late → AreMarkedOf marked (first ++ second) (early ++ late)
  marked-both first second early late f s number = (λ among. go (Contains-append_cases early late number among), λ h. back (Contains-append_cases first second number h.0) h.1)
    where
      go : Contains early number ⊎ Contains late number → Contains (first ++ second) number × (marked number ≡ true)
      go (inl among) = let h = (f number).0 among in (Contains-append_left first second number h.0, h.1)
      go (inr among) = let h = (s number).0 among in (Contains-append_right first second number h.0, h.1)

      back : Contains first number ⊎ Contains second number → marked number ≡ true → Contains (early ++ late) number
      back (inl among) is = Contains-append_left early late number ((f number).1 (among, is))
      back (inr among) is = Contains-append_right early late number ((s number).1 (among, is))

  module _ (numbers : List ℕ) (k d : ℕ) (small : k < length numbers) (listed : List ℕ) (so_far : AreMarkedOf marked (take k numbers) listed) where
    pub marked-passed : marked (get_or numbers k d) ≡ false → AreMarkedOf marked (take (k + 1) numbers) listed
    marked-passed isnt number = (λ among. let h = (so_far number).0 among in (taken-before numbers k d small number h.0, h.1), λ h. back (taken-cases numbers k d small number h.0) h.1)
      where
        back : Contains (take k numbers) number ⊎ (get_or numbers k d ≡ number) → marked number ≡ true → Contains listed number
        back (inl early) is = (so_far number).1 (early, is)
        back (inr e) is = absurd (false≢true (sym isnt ∙ ap marked e ∙ is))

    pub marked-more : marked (get_or numbers k d) ≡ true → AreMarkedOf marked (take (k + 1) numbers) (listed ++ get_or numbers k d ∷ [])
    marked-more is number = (λ among. go (Contains-push_cases listed (get_or numbers k d) number among), λ h. back (taken-cases numbers k d small number h.0) h.1)
      where
        go : Contains listed number ⊎ (get_or numbers k d ≡ number) → Contains (take (k + 1) numbers) number × (marked number ≡ true)
        go (inl among) = let h = (so_far number).0 among in (taken-before numbers k d small number h.0, h.1)
        go (inr e) = (subst (λ (n : ℕ). Contains (take (k + 1) numbers) n) e (taken-last numbers k d small), sym (ap marked e) ∙ is)

        back : Contains (take k numbers) number ⊎ (get_or numbers k d ≡ number) → marked number ≡ true → Contains (listed ++ get_or numbers k d ∷ []) number
        back (inl early) h = Contains-append_left listed (get_or numbers k d ∷ []) number ((so_far number).1 (early, h))
        back (inr e) h = subst (λ (n : ℕ). Contains (listed ++ get_or numbers k d ∷ []) n) e (Contains-push listed (get_or numbers k d))

  -- those of a group more
  pub marked-group : (flops old : List Group) (k : ℕ) (d new : Group) → k < length flops → AreMarkedOf marked (get_or flops k d).flops.items new.flops.items
      → AreMarkedOf marked (slots_of (take k flops)) (slots_of old) → AreMarkedOf marked (slots_of (take (k + 1) flops)) (slots_of (old ++ new ∷ []))
  marked-group flops old k d new small here so_far =
      subst (λ (listed : List ℕ). AreMarkedOf marked (slots_of (take (k + 1) flops)) listed) (sym (slots_of-push old new))
      (subst (λ (numbers : List ℕ). AreMarkedOf marked numbers (slots_of old ++ new.flops.items)) (sym (slots_of-more flops k d small))
      (marked-both (slots_of (take k flops)) (get_or flops k d).flops.items (slots_of old) new.flops.items so_far here))

  pub marked-nowhere : (flops old : List Group) (k : ℕ) (d : Group) → k < length flops → AreMarkedOf marked (get_or flops k d).flops.items []
      → AreMarkedOf marked (slots_of (take k flops)) (slots_of old) → AreMarkedOf marked (slots_of (take (k + 1) flops)) (slots_of old)
  marked-nowhere flops old k d small here so_far =
      subst (λ (listed : List ℕ). AreMarkedOf marked (slots_of (take (k + 1) flops)) listed) (append-nil (slots_of old))
      (subst (λ (numbers : List ℕ). AreMarkedOf marked numbers (slots_of old ++ [])) (sym (slots_of-more flops k d small))
      (marked-both (slots_of (take k flops)) (get_or flops k d).flops.items (slots_of old) [] so_far here))

-- ---- which flip-flops a share has

pub slot-grouped : (groups : List Group) (slot : ℕ) → Contains (slots_of groups) slot → (group : Group) × Contains groups group × Contains group.flops.items slot
slot-grouped [] slot among = absurd (omega (arith, among.1))
slot-grouped (first ∷ groups) slot among = go (slot-grouped groups slot) (Contains-append_cases first.flops.items (slots_of groups) slot among)
  where
    go : (Contains (slots_of groups) slot → (group : Group) × Contains groups group × Contains group.flops.items slot) → Contains first.flops.items slot ⊎ Contains (slots_of groups) slot
        → (group : Group) × Contains (first ∷ groups) group × Contains group.flops.items slot
    go rest (inl here) = (first, Contains-append_left (first ∷ []) groups first (Contains-push [] first), here)
    go rest (inr there) = let found = rest there in (found.0, Contains-append_right (first ∷ []) groups found.0 found.1, found.2)

only-group : (first group : Group) → Contains (first ∷ []) group → first ≡ group
only-group first group among = at among.0 among.1 among.2
  where
    at : (k : ℕ) → k < length (first ∷ []) → get_or (first ∷ []) k group ≡ group → first ≡ group
    at zero l is = is
    at (suc k) l is = absurd (omega arith)

pub grouped-slot : (groups : List Group) (group : Group) (slot : ℕ) → Contains groups group → Contains group.flops.items slot → Contains (slots_of groups) slot
grouped-slot [] group slot among here = absurd (omega (arith, among.1))
grouped-slot (first ∷ groups) group slot among here = go (grouped-slot groups group slot) (Contains-append_cases (first ∷ []) groups group among)
  where
    go : (Contains groups group → Contains group.flops.items slot → Contains (slots_of groups) slot) → Contains (first ∷ []) group ⊎ Contains groups group → Contains (first.flops.items ++ slots_of groups) slot
    go rest (inl e) = Contains-append_left first.flops.items (slots_of groups) slot (subst (λ (g : Group). Contains g.flops.items slot) (sym (only-group first group e)) here)
    go rest (inr there) = Contains-append_right first.flops.items (slots_of groups) slot (rest there here)

pub slots-flop : (cells : List Cell) (groups : List Group) (slot : ℕ) → All (IsGroup cells) groups → Contains (slots_of groups) slot → is_flop (cell_at cells slot) ≡ true
slots-flop cells groups slot are among =
    let found = slot-grouped groups slot among in
    let is = All-contains (IsGroup cells) groups found.0 are found.1 in
    of (cell_at cells slot) found.0.clock found.0.delay (All-contains (λ (s : ℕ). IsFlopOf (cell_at cells s) found.0.clock found.0.delay) found.0.flops.items slot (group-flops cells found.0 is) found.2)
  where
    of : (cell : Cell) (clock : Clock) (delay : ℕ) → IsFlopOf cell clock delay → is_flop cell ≡ true
    of Told clock delay flop = absurd flop
    of (Gate kind pins) clock delay flop = absurd flop
    of (Flop own pin) clock delay flop = refl

pub flop-slots : (cells : List Cell) (groups : List Group) (slot : ℕ) → AreFlops cells groups → is_flop (cell_at cells slot) ≡ true → Contains (slots_of groups) slot
flop-slots cells groups slot are is = of (cell_at cells slot) refl is
  where
    of : (cell : Cell) → cell_at cells slot ≡ cell → is_flop cell ≡ true → Contains (slots_of groups) slot
    of Told e is = absurd (false≢true is)
    of (Gate kind pins) e is = absurd (false≢true is)
    of (Flop clock pin) e is =
        let found = are.all slot clock pin.delay (subst (λ (cell : Cell). IsFlopOf cell clock pin.delay) (sym e) (refl, refl)) in
        grouped-slot groups found.group slot found.among found.listed

module _ (design : Design) (circuit : Circuit) (is_circuit : IsCircuit design circuit) where
  -- a flip-flop's cell is that of a driven net
  pub flop-net : (slot : ℕ) → is_flop (cell_at circuit.wiring.cells slot) ≡ true → (slot < nets_of design) × (drives circuit.wiring.roles.items slot ≡ true)
  flop-net slot is = (small, driven (cases_Bool (drives circuit.wiring.roles.items slot)))
    where
      made : is_made (cell_at circuit.wiring.cells slot) ≡ true
      made = of (cell_at circuit.wiring.cells slot) is
        where
          of : (cell : Cell) → is_flop cell ≡ true → is_made cell ≡ true
          of Told is = absurd (false≢true is)
          of (Gate kind pins) is = refl
          of (Flop clock pin) is = refl

      small : slot < nets_of design
      small = go (cases_lt slot (nets_of design))
        where
          go : (slot < nets_of design) ⊎ (nets_of design ≤ slot) → slot < nets_of design
          go (inl l) = l
          go (inr l) = absurd (false≢true (sym (is_circuit.plan.told slot l) ∙ made))

      driven : (drives circuit.wiring.roles.items slot ≡ true) ⊎ (drives circuit.wiring.roles.items slot ≡ false) → drives circuit.wiring.roles.items slot ≡ true
      driven (inl h) = h
      driven (inr h) = absurd (false≢true (sym (is_circuit.plan.others slot small h) ∙ made))

  -- so the slots of groups are some of the design's nets
  pub exports-few : (exports : List Group) (bound : ℕ) → nets_of design ≤ bound → All (IsGroup circuit.wiring.cells) exports → All (λ group. All (λ slot. slot < bound) group.flops.items) exports
  exports-few exports bound few are k d small n e within =
      let slot : ℕ = get_or (get_or exports k d).flops.items n e in
      let among = grouped-slot exports (get_or exports k d) slot (Contains-get_or exports k d small) (Contains-get_or (get_or exports k d).flops.items n e within) in
      omega (arith, few, (flop-net slot (slots-flop circuit.wiring.cells exports slot are among)).0)

  -- and stands for what its driver makes
  pub driven-stands : (net : ℕ) → net < nets_of design → drives circuit.wiring.roles.items net ≡ true
      → CellStandsFor (nets_of design) circuit.lines.items circuit.wiring.most (cell_in design net) (cell_at circuit.wiring.cells net)
  driven-stands net small driven =
      subst (λ (role : Role). CellStandsFor (nets_of design) circuit.lines.items circuit.wiring.most (cell_as design net role) (cell_at circuit.wiring.cells net))
      (driven-is (role_of circuit.wiring.roles.items net) driven) (is_circuit.plan.stand net small)

  stands-flop : (driver : Driver) (net : ℕ) (cell : Cell) → CellStandsFor (nets_of design) circuit.lines.items circuit.wiring.most (cell_by design net driver) cell → is_flop cell ≡ is_flop_driver driver
  stands-flop Input net Told h = refl
  stands-flop Input net (Gate kind pins) h = absurd h
  stands-flop Input net (Flop clock pin) h = absurd h
  stands-flop (driver.Gate kind operands) net Told h = absurd h
  stands-flop (driver.Gate kind operands) net (Gate other pins) h = refl
  stands-flop (driver.Gate kind operands) net (Flop clock pin) h = absurd h
  stands-flop (driver.Flop source) net Told h = absurd h
  stands-flop (driver.Flop source) net (Gate kind pins) h = absurd h
  stands-flop (driver.Flop source) net (Flop clock pin) h = refl

  pub flops-exact : AreOf design (driven_of circuit.wiring.roles.items) circuit.wiring.roles.items → (net : ℕ)
      → Contains (slots_of circuit.wiring.flops.items) net ↔ (IsDriven (driven_of circuit.wiring.roles.items) net × (is_flop_driver (driver_of design.netlist net) ≡ true))
  flops-exact are net = (to, from)
    where
      to : Contains (slots_of circuit.wiring.flops.items) net → IsDriven (driven_of circuit.wiring.roles.items) net × (is_flop_driver (driver_of design.netlist net) ≡ true)
      to among =
          let flop = slots-flop circuit.wiring.cells circuit.wiring.flops.items net is_circuit.wires.flip_flops.each among in
          let is = flop-net net flop in (
            driven-at circuit.wiring.roles.items net (omega (arith, is.0, are.count)) ∙ is.1,
            sym (stands-flop (driver_of design.netlist net) net (cell_at circuit.wiring.cells net) (driven-stands net is.0 is.1)) ∙ flop,
          )

      from : IsDriven (driven_of circuit.wiring.roles.items) net × (is_flop_driver (driver_of design.netlist net) ≡ true) → Contains (slots_of circuit.wiring.flops.items) net
      from h =
          let is = driven-net design circuit.wiring.roles.items are net h.0 in
          flop-slots circuit.wiring.cells circuit.wiring.flops.items net is_circuit.wires.flip_flops
          (stands-flop (driver_of design.netlist net) net (cell_at circuit.wiring.cells net) (driven-stands net is.0 is.1) ∙ h.1)

  -- the exports of a share are the crossing ones of its flip-flops
  pub exports-exact : (crossing : List Bool) (exports : List Group) → AreOf design (driven_of circuit.wiring.roles.items) circuit.wiring.roles.items
      → ((slot : ℕ) → Contains (slots_of exports) slot ↔ (Contains (slots_of circuit.wiring.flops.items) slot × (get_or crossing slot false ≡ true)))
      → (net : ℕ) → Contains (slots_of exports) net ↔ (IsDriven (driven_of circuit.wiring.roles.items) net × IsCrossing design crossing net)
  exports-exact crossing exports are exact net = (
    λ among. let h = (exact net).0 among in let f = (flops-exact are net).0 h.0 in (f.0, (h.1, f.1)),
    λ h. (exact net).1 ((flops-exact are net).1 (h.0, h.1.1), h.1.0),
  )

  -- ---- what they tell

  -- in a flip-flop's lookahead its samples were taken before
  module _ (roles_are : AreOf design (driven_of circuit.wiring.roles.items) circuit.wiring.roles.items) (from to : ℕ) (some : from < to) (short : to ≤ from + circuit.width) where
    taken-before_by : (by : Driver) (net : ℕ) (cell : Cell) (clock : Clock) (ticks : ℕ) → CellStandsFor (nets_of design) circuit.lines.items circuit.wiring.most (cell_by design net by) cell → IsFlopOf cell clock ticks
        → IsWithinLookahead design from to net → delay design net 1 < circuit.width → AreTakenBefore clock ticks to (64 - (to - from))
    taken-before_by Input net Told clock ticks h flop ahead soon = absurd flop
    taken-before_by Input net (Gate kind pins) clock ticks h flop ahead soon = absurd flop
    taken-before_by Input net (Flop own pin) clock ticks h flop ahead soon = absurd h
    taken-before_by (driver.Gate kind operands) net Told clock ticks h flop ahead soon = absurd flop
    taken-before_by (driver.Gate kind operands) net (Gate other pins) clock ticks h flop ahead soon = absurd flop
    taken-before_by (driver.Gate kind operands) net (Flop own pin) clock ticks h flop ahead soon = absurd h
    taken-before_by (driver.Flop source) net Told clock ticks h flop ahead soon = absurd flop
    taken-before_by (driver.Flop source) net (Gate kind pins) clock ticks h flop ahead soon = absurd flop
    taken-before_by (driver.Flop source) net (Flop own pin) clock ticks h flop ahead soon = λ place late small arrives. go place late small arrives h.3
      where
        same : (tick : ℕ) → arrives_by own pin.delay tick ≡ arrives_at design net tick
        same tick = ap₂ (λ (start period : ℕ). nat_le start tick && ((tick - start) % period == 0)) h.1 h.2

        go : (place : ℕ) → 64 - (to - from) ≤ place → place < 64 → arrives_by clock ticks (to + place - 64) ≡ true
            → StandsFor (nets_of design) circuit.lines.items circuit.wiring.most (record { net = source; delay = delay design net 1 }) pin → place < 64 - (to - from) + ticks
        go place late small arrives (inl is) =
            let own_arrives : arrives_by own pin.delay (to + place - 64) ≡ true = rw (flop.0, flop.1) arrives in
            let delays : pin.delay ≡ delay design net 1 = ap (λ (p : Pin). p.delay) is.same in
            let known = ahead (to + place - 64) (omega (arith, is_circuit.plan.fits)) (omega arith) (sym (same (to + place - 64)) ∙ own_arrives) in
            omega (arith, known, delays, flop.1, is_circuit.plan.fits)
        go place late small arrives (inr is) =
            let line = is_circuit.plan.sources is.number (record { net = source; delay = delay design net 1 }) (slice_get_within circuit.lines.items is.number _ is.line) in
            let at : get_or circuit.lines.items is.number (record { net = source; delay = delay design net 1 }) ≡ record { net = source; delay = delay design net 1 } = get_or_from_slice_get circuit.lines.items is.number _ _ is.line in
            absurd (omega (arith, line.1, ap (λ (p : Pin). p.delay) at, soon))

    pub exports-taken : (exports : List Group) → All (IsGroup circuit.wiring.cells) exports
        → ((net : ℕ) → Contains (slots_of exports) net → IsWithinLookahead design from to net) → ((net : ℕ) → Contains (slots_of exports) net → delay design net 1 < circuit.width)
        → All (λ group. AreTakenBefore group.clock group.delay to (64 - (to - from))) exports
    exports-taken exports are ahead soon k d small =
        let group : Group = get_or exports k d in
        let slot : ℕ = get_or group.flops.items 0 0 in
        let among = grouped-slot exports group slot (Contains-get_or exports k d small) (Contains-get_or group.flops.items 0 0 (are k d small).some) in
        let is = flop-net slot (slots-flop circuit.wiring.cells exports slot are among) in
        taken-before_by (driver_of design.netlist slot) slot (cell_at circuit.wiring.cells slot) group.clock group.delay (driven-stands slot is.0 is.1) (group-flops circuit.wiring.cells group (are k d small) 0 0 (are k d small).some)
        (ahead slot among) (soon slot among)

    pub exports-tell : (exports : List Group) → All (IsGroup circuit.wiring.cells) exports → (words : List Planes) → Shows (levels_of words) (trace_of design circuit.wiring.roles.items circuit.lines.items) (length words) from
        → (told : List Changed) → AddsAhead circuit.wiring.cells words (slots_of exports) from to [] told
        → All (λ one. Contains (slots_of exports) one.net) told × TellsThose (Contains (slots_of exports)) (value design) from to told
    exports-tell exports are words shows told adds = (
      λ k d small. (right (get_or told k d) (all.right (get_or told k d) (Contains-get_or told k d small))).0,
      record {
        words = λ one among exported.
            tells-same (trace_of design circuit.wiring.roles.items circuit.lines.items) (value design) from to one one refl (λ tick. level one.net tick exported)
            (right one (all.right one among)).1;
        others = λ net exported none.
            still-agrees (trace_of design circuit.wiring.roles.items circuit.lines.items net) (value design net) from to (λ tick late below. level net tick exported) (all.others net exported none);
      },
    )
      where
        all : AddsSlots (trace_of design circuit.wiring.roles.items circuit.lines.items) (slots_of exports) from to [] told
        all = adds (trace_of design circuit.wiring.roles.items circuit.lines.items) is_circuit.plan.meets shows

        level : (net tick : ℕ) → Contains (slots_of exports) net → trace_of design circuit.wiring.roles.items circuit.lines.items net tick ≡ value design net tick
        level net tick exported =
            let is = flop-net net (slots-flop circuit.wiring.cells exports net are exported) in
            trace-net design circuit.wiring.roles.items circuit.lines.items net tick is.0 ∙ level-present design circuit.wiring.roles.items net tick (driven-known circuit.wiring.roles.items net is.1)

        right : (one : Changed) → Contains [] one ⊎ (Contains (slots_of exports) one.net × TellsNet (trace_of design circuit.wiring.roles.items circuit.lines.items) from to one)
            → Contains (slots_of exports) one.net × TellsNet (trace_of design circuit.wiring.roles.items circuit.lines.items) from to one
        right one (inl h) = absurd (omega (arith, h.1))
        right one (inr h) = h
