-- Flip-flops in groups.
use Rattle.std.proofs.Common.{◌≡◌, ℕ, ◌+◌, ◌-◌, ◌<◌, ◌≤◌, ◌⊎◌, inl, inr, Bool, true, false, List, [], ◌∷◌, ◌++◌, ◌||◌, ◌&&◌, ◌==◌, length, set, get_or, refl, sym, ap, ap₂, subst, ◌∙◌, arith, length-append, length-set, get_or-set_same, get_or-set_other}
use Rattle.std.specs.Prelude.{All, Contains, nat_le}
use Rattle.std.specs.List.Sorted.{IsPermutation}
use Rattle.std.proofs.lemmas.Bool.{and_left, cases_eq, cases_lt, eq-eqb, false≢true, lt-leb, or_left}
use Rattle.std.proofs.lemmas.List.{get_or_default}
use Rattle.std.proofs.lemmas.List.Elements.{All-push, AllZip-get_or, AllZip-push, Contains-append_left, Contains-push, length_all_zip}
use Rattle.std.proofs.lemmas.List.Sorted.{All-permutation, Contains-permutation}
use Rattle.cmb_wave.specs.declared.level.Level.{Level}
use Rattle.cmb_design_model.specs.declared.rows.Clock.{Clock}
use Rattle.cmb_engine.specs.Inner.Cells.{Cell, Told, Gate, Flop, IsLawful, IsSteady, cell_at, is_flop, is_made}
use Rattle.cmb_engine.specs.Inner.Bits.{has}
use Rattle.cmb_engine.specs.Inner.Orders.{Order, is_marked, rank_in}
use Rattle.cmb_engine.specs.Inner.Circuits.{AreFlops, AreMembers, Arrives, IsFlopAt, IsFlopOf, IsGroup, IsGroupWithin, IsInGroup, IsMarkedOrRests}
use Rattle.cmb_engine.specs.Rows.{arrives_by}
use Rattle.cmb_engine.specs.declared.cell.Pin.{Pin}
use Rattle.cmb_engine.specs.declared.group.Group.{Group}
use Rattle.cmb_engine.specs.declared.group.Member.{Member}
use Rattle.cmb_engine.proofs.SweepFacts.{inserted-keeps}
use Rattle.cmb_engine.proofs.TraceFacts.{made-inside}

-- ---- a cell that is a flip-flop

-- a flip-flop gets a sample at a tick
pub record IsArrival (cell : Cell) (tick : ℕ) : Type 0 where
  pub clock : Clock
  pub delay : ℕ
  pub flop : IsFlopOf cell clock delay
  pub arrives : arrives_by clock delay tick ≡ true

pub arrives-flop : (cell : Cell) (tick : ℕ) → Arrives cell tick → IsArrival cell tick
arrives-flop Told tick h = absurd h
arrives-flop (Gate kind pins) tick h = absurd h
arrives-flop (Flop own pin) tick h = record { clock = own; delay = pin.delay; flop = (refl, refl); arrives = h }

pub flop-made : (cell : Cell) (clock : Clock) (delay : ℕ) → IsFlopOf cell clock delay → is_made cell ≡ true
flop-made Told clock delay h = absurd h
flop-made (Gate kind pins) clock delay h = absurd h
flop-made (Flop own pin) clock delay h = refl

pub flop-inside : (cells : List Cell) (slot : ℕ) (clock : Clock) (delay : ℕ) → IsFlopOf (cell_at cells slot) clock delay → slot < length cells
flop-inside cells slot clock delay h = made-inside cells slot (flop-made (cell_at cells slot) clock delay h)

-- a flip-flop has a pin
pub flop-pin : (cell : Cell) (clock : Clock) (delay : ℕ) → IsFlopOf cell clock delay → (pin : Pin) × (cell ≡ Flop clock pin) × (pin.delay ≡ delay)
flop-pin Told clock delay h = absurd h
flop-pin (Gate kind pins) clock delay h = absurd h
flop-pin (Flop own pin) clock delay h = (pin, ap (λ (c : Clock). Flop c pin) h.0, h.1)

pub flop-of : (cell : Cell) (clock : Clock) (pin : Pin) → cell ≡ Flop clock pin → IsFlopOf cell clock pin.delay
flop-of cell clock pin is = subst (λ (c : Cell). IsFlopOf c clock pin.delay) (sym is) (refl, refl)

-- ---- one by one

-- the flip-flops among the first so many slots
pub record AreMembersBelow (cells : List Cell) (upto : ℕ) (members : List Member) : Type 0 where
  pub all : (slot : ℕ) (clock : Clock) (pin : Pin) → slot < upto → cell_at cells slot ≡ Flop clock pin → Contains members (record { clock = clock; pin = pin; slot = slot })
  pub each : All (λ member. cell_at cells member.slot ≡ Flop member.clock member.pin) members

-- a cell as a flip-flop of a slot
abbrev member_of : Cell → ℕ → Member
member_of Told slot = record { clock = record { first = 0; period = 0 }; pin = record { net = 0; delay = 0 }; slot = slot }
member_of (Gate kind pins) slot = record { clock = record { first = 0; period = 0 }; pin = record { net = 0; delay = 0 }; slot = slot }
member_of (Flop clock pin) slot = record { clock = clock; pin = pin; slot = slot }

module _ (cells : List Cell) (upto : ℕ) (members : List Member) (known : AreMembersBelow cells upto members) where
  pub members-same : is_flop (cell_at cells upto) ≡ false → AreMembersBelow cells (upto + 1) members
  members-same none = record {
    all = λ slot clock pin below flop. go slot clock pin below flop (cases_eq slot upto);
    each = known.each;
  }
    where
      go : (slot : ℕ) (clock : Clock) (pin : Pin) → slot < upto + 1 → cell_at cells slot ≡ Flop clock pin → (slot ≡ upto) ⊎ (slot ≡ upto → ⊥)
          → Contains members (record { clock = clock; pin = pin; slot = slot })
      go slot clock pin below flop (inl e) = absurd (false≢true (sym none ∙ ap (λ n. is_flop (cell_at cells n)) (sym e) ∙ ap is_flop flop))
      go slot clock pin below flop (inr n) = known.all slot clock pin (omega arith) flop

  pub members-more : (clock : Clock) (pin : Pin) → cell_at cells upto ≡ Flop clock pin
      → AreMembersBelow cells (upto + 1) (members ++ record { clock = clock; pin = pin; slot = upto } ∷ [])
  members-more own mine here = record {
    all = λ slot clock pin below flop. go slot clock pin below flop (cases_eq slot upto);
    each = All-push (λ (member : Member). cell_at cells member.slot ≡ Flop member.clock member.pin) members one known.each here;
  }
    where
      one : Member
      one = record { clock = own; pin = mine; slot = upto }

      go : (slot : ℕ) (clock : Clock) (pin : Pin) → slot < upto + 1 → cell_at cells slot ≡ Flop clock pin → (slot ≡ upto) ⊎ (slot ≡ upto → ⊥)
          → Contains (members ++ record { clock = own; pin = mine; slot = upto } ∷ []) (record { clock = clock; pin = pin; slot = slot })
      go slot clock pin below flop (inl e) =
          let same : Flop own mine ≡ Flop clock pin = sym here ∙ ap (cell_at cells) (sym e) ∙ flop in
          subst (λ (m : Member). Contains (members ++ one ∷ []) m) (ap₂ member_of same (sym e)) (Contains-push members one)
      go slot clock pin below flop (inr n) = Contains-append_left members (one ∷ []) _ (known.all slot clock pin (omega arith) flop)

pub members-whole : (cells : List Cell) (members sorted : List Member) → AreMembersBelow cells (length cells) members → IsPermutation members sorted → AreMembers cells sorted
members-whole cells members sorted known moved = record {
  all = λ slot clock pin flop.
      Contains-permutation members sorted (record { clock = clock; pin = pin; slot = slot }) moved (known.all slot clock pin (made-inside cells slot (ap is_made flop)) flop);
  each = All-permutation (λ (member : Member). cell_at cells member.slot ≡ Flop member.clock member.pin) members sorted moved known.each;
}

-- ---- one more in a group

module _ (groups : List Group) (k : ℕ) (old new : Group) (inside : k < length groups) (here : old ≡ get_or groups k old)
    (clocks : new.clock ≡ old.clock) (delays : new.delay ≡ old.delay) (slot : ℕ) (items : new.flops.items ≡ old.flops.items ++ slot ∷ []) where
  new-among : Contains (set groups k new) new
  new-among = (k, omega (arith, length-set groups k new), get_or-set_same groups k new new inside)

  pub group-kept : (clock : Clock) (delay other : ℕ) → IsInGroup clock delay other groups → IsInGroup clock delay other (set groups k new)
  group-kept clock delay other h = go (cases_eq h.among.0 k)
    where
      go : (h.among.0 ≡ k) ⊎ (h.among.0 ≡ k → ⊥) → IsInGroup clock delay other (set groups k new)
      go (inl e) =
          let is : h.group ≡ old = sym h.among.2 ∙ ap (λ n. get_or groups n h.group) e ∙ get_or_default groups k h.group old inside ∙ sym here in
          record {
            group = new;
            among = new-among;
            same_clock = clocks ∙ ap (λ (g : Group). g.clock) (sym is) ∙ h.same_clock;
            same_delay = delays ∙ ap (λ (g : Group). g.delay) (sym is) ∙ h.same_delay;
            listed = subst (λ (xs : List ℕ). Contains xs other) (sym items)
                (Contains-append_left old.flops.items (slot ∷ []) other (subst (λ (g : Group). Contains g.flops.items other) is h.listed));
          }
      go (inr n) = record {
        group = h.group;
        among = (h.among.0, omega (arith, length-set groups k new, h.among.1), get_or-set_other groups k h.among.0 new h.group n ∙ h.among.2);
        same_clock = h.same_clock;
        same_delay = h.same_delay;
        listed = h.listed;
      }

  pub group-listed : (clock : Clock) (delay : ℕ) → (get_or groups k old).clock ≡ clock → (get_or groups k old).delay ≡ delay → IsInGroup clock delay slot (set groups k new)
  group-listed clock delay same_clock same_delay = record {
    group = new;
    among = new-among;
    same_clock = clocks ∙ ap (λ (g : Group). g.clock) here ∙ same_clock;
    same_delay = delays ∙ ap (λ (g : Group). g.delay) here ∙ same_delay;
    listed = subst (λ (xs : List ℕ). Contains xs slot) (sym items) (Contains-push old.flops.items slot);
  }

  -- all are groups as before
  pub groups-kept : (cells : List Cell) (net : ℕ) → new.sources.items ≡ old.sources.items ++ net ∷ [] → cell_at cells slot ≡ Flop old.clock (record { net = net; delay = old.delay })
      → All (IsGroup cells) groups → All (IsGroup cells) (set groups k new)
  groups-kept cells net sources flop are n d small = go (cases_eq n k)
    where
      is : IsGroup cells old
      is = subst (IsGroup cells) (sym here) (are k old inside)

      more : IsGroup cells new
      more = record {
        some = omega (arith, ap length items, length-append old.flops.items (slot ∷ []));
        each = rw (clocks, delays, items, sources) (AllZip-push (IsFlopAt cells old.clock old.delay) old.flops.items old.sources.items slot net is.each flop);
      }

      go : (n ≡ k) ⊎ (n ≡ k → ⊥) → IsGroup cells (get_or (set groups k new) n d)
      go (inl e) = subst (IsGroup cells) (sym (ap (λ (m : ℕ). get_or (set groups k new) m d) e ∙ get_or-set_same groups k new d inside)) more
      go (inr other) = subst (IsGroup cells) (sym (get_or-set_other groups k n new d other)) (are n d (omega (arith, small, length-set groups k new)))

-- ---- one more group

pub group-added : (groups : List Group) (new : Group) (clock : Clock) (delay other : ℕ) → IsInGroup clock delay other groups → IsInGroup clock delay other (groups ++ new ∷ [])
group-added groups new clock delay other h = record {
  group = h.group;
  among = Contains-append_left groups (new ∷ []) h.group h.among;
  same_clock = h.same_clock;
  same_delay = h.same_delay;
  listed = h.listed;
}

pub group-new : (groups : List Group) (new : Group) (slot : ℕ) → Contains new.flops.items slot → IsInGroup new.clock new.delay slot (groups ++ new ∷ [])
group-new groups new slot listed = record {
  group = new;
  among = Contains-push groups new;
  same_clock = refl;
  same_delay = refl;
  listed = listed;
}

-- a group of one flip-flop
pub group-first : (cells : List Cell) (group : Group) (slot net : ℕ) → group.flops.items ≡ slot ∷ [] → group.sources.items ≡ net ∷ []
    → cell_at cells slot ≡ Flop group.clock (record { net = net; delay = group.delay }) → IsGroup cells group
group-first cells group slot net flops sources flop = record { some = omega (arith, ap length flops); each = rw (flops, sources) (flop, tt) }

-- ---- all groups

module _ (cells : List Cell) (group : Group) (is : IsGroup cells group) where
  -- the cell of a flip-flop in a group, by its place there
  pub group-flop : (k d e : ℕ) → k < length group.flops.items → IsFlopAt cells group.clock group.delay (get_or group.flops.items k d) (get_or group.sources.items k e)
  group-flop k d e small = AllZip-get_or (IsFlopAt cells group.clock group.delay) group.flops.items group.sources.items k d e is.each small

  -- and as it is read
  pub group-read : (k slot net : ℕ) → k < length group.flops.items → slot ≡ get_or group.flops.items k slot → net ≡ get_or group.sources.items k net → IsFlopAt cells group.clock group.delay slot net
  group-read k slot net small slot_is net_is =
      subst (λ (n : ℕ). IsFlopAt cells group.clock group.delay n net) (sym slot_is)
      (subst (λ (n : ℕ). IsFlopAt cells group.clock group.delay (get_or group.flops.items k slot) n) (sym net_is) (group-flop k slot net small))

  pub group-pairs : length group.sources.items ≡ length group.flops.items
  group-pairs = sym (length_all_zip (IsFlopAt cells group.clock group.delay) group.flops.items group.sources.items is.each)

  pub group-flops : All (λ slot. IsFlopOf (cell_at cells slot) group.clock group.delay) group.flops.items
  group-flops k d small = flop-of (cell_at cells (get_or group.flops.items k d)) group.clock _ (group-flop k d 0 small)

  -- a group's clock and delay are those of its first flip-flop
  pub group-within : (count most : ℕ) → length cells ≡ count → ((slot : ℕ) → slot < count → IsLawful count most (cell_at cells slot)) → IsGroupWithin count most group
  group-within count most nets lawful = record {
    pace = (here 0 0 0 is.some).0;
    delay = (here 0 0 0 is.some).2;
    pairs = group-pairs;
    slots = inside;
    nets = λ k e small. (here k 0 e (omega (arith, small, group-pairs))).1;
  }
    where
      inside : All (λ slot. slot < count) group.flops.items
      inside k d small = omega (arith, nets, flop-inside cells (get_or group.flops.items k d) group.clock group.delay (group-flops k d small))

      here : (k d e : ℕ) → k < length group.flops.items → IsLawful count most (Flop group.clock (record { net = get_or group.sources.items k e; delay = group.delay }))
      here k d e small = subst (IsLawful count most) (group-flop k d e small) (lawful (get_or group.flops.items k d) (inside k d small))

pub groups-within : (cells : List Cell) (groups : List Group) (count most : ℕ) → All (IsGroup cells) groups → length cells ≡ count
    → ((slot : ℕ) → slot < count → IsLawful count most (cell_at cells slot)) → All (IsGroupWithin count most) groups
groups-within cells groups count most are nets lawful k d small = group-within cells (get_or groups k d) (are k d small) count most nets lawful

-- the first so many of the flip-flops are in their groups
abbrev pub AreGrouped : List Member → ℕ → List Group → Type 0
AreGrouped members upto groups =
    (k : ℕ) (d : Member) → k < upto → IsInGroup (get_or members k d).clock (get_or members k d).pin.delay (get_or members k d).slot groups

pub grouped-more : (members : List Member) (upto : ℕ) (old new : List Group) (none : Member) → upto < length members
    → ((clock : Clock) (delay slot : ℕ) → IsInGroup clock delay slot old → IsInGroup clock delay slot new)
    → IsInGroup (get_or members upto none).clock (get_or members upto none).pin.delay (get_or members upto none).slot new → AreGrouped members upto old → AreGrouped members (upto + 1) new
grouped-more members upto old new none inside kept listed known k d below = go (cases_eq k upto)
  where
    go : (k ≡ upto) ⊎ (k ≡ upto → ⊥) → IsInGroup (get_or members k d).clock (get_or members k d).pin.delay (get_or members k d).slot new
    go (inl e) =
        let is : get_or members upto none ≡ get_or members k d = get_or_default members upto none d inside ∙ ap (λ n. get_or members n d) (sym e) in
        subst (λ (m : Member). IsInGroup m.clock m.pin.delay m.slot new) is listed
    go (inr n) = kept (get_or members k d).clock (get_or members k d).pin.delay (get_or members k d).slot (known k d (omega arith))

pub flops-whole : (cells : List Cell) (members : List Member) (groups : List Group) → AreMembers cells members → AreGrouped members (length members) groups
    → All (IsGroup cells) groups → AreFlops cells groups
flops-whole cells members groups right grouped each = record {
  all = λ slot clock delay flop.
      let found = flop-pin (cell_at cells slot) clock delay flop in
      let at : Contains members (record { clock = clock; pin = found.0; slot = slot }) = right.all slot clock found.0 found.1 in
      subst (λ (n : ℕ). IsInGroup clock n slot groups) found.2
      (subst (λ (m : Member). IsInGroup m.clock m.pin.delay m.slot groups) at.2 (grouped at.0 (record { clock = clock; pin = found.0; slot = slot }) at.1));
  each = each;
}

-- marks are kept
pub rests-kept : (order : Order) (old new : List ℕ) (words : ℕ → ℕ → Level) (first : ℕ) (cells : List Cell) (slot : ℕ) → ((m : ℕ) → has old m ≡ true → has new m ≡ true)
    → IsMarkedOrRests (is_marked order old) words first cells slot → IsMarkedOrRests (is_marked order new) words first cells slot
rests-kept order old new words first cells slot kept (inl marked) = inl (kept (rank_in order slot) marked)
rests-kept order old new words first cells slot kept (inr rests) = inr rests

-- marks stay, and a slot is marked or rests where its cell is a flip-flop with this clock and pin
pub record MarksOne (order : Order) (old new : List ℕ) (words : ℕ → ℕ → Level) (first slot : ℕ) (pin : Pin) : Type 0 where
  pub room : length new ≡ length old
  pub kept : (m : ℕ) → has old m ≡ true → has new m ≡ true
  pub here : (cells : List Cell) (clock : Clock) → cell_at cells slot ≡ Flop clock pin → IsMarkedOrRests (is_marked order new) words first cells slot

pub marks-none : (order : Order) (marks : List ℕ) (words : ℕ → ℕ → Level) (first slot : ℕ) (pin : Pin) → ((clock : Clock) (to : ℕ) → IsSteady words to first slot (Flop clock pin))
    → MarksOne order marks marks words first slot pin
marks-none order marks words first slot pin rests = record {
  room = refl;
  kept = λ m h. h;
  here = λ cells clock is. inr (λ to. subst (IsSteady words to first slot) (sym is) (rests clock to));
}

pub marks-one : (order : Order) (old new : List ℕ) (words : ℕ → ℕ → Level) (first slot : ℕ) (pin : Pin) (rank : ℕ) → rank ≡ rank_in order slot → length new ≡ length old
    → ((m : ℕ) → has new m ≡ (m == rank || has old m)) → MarksOne order old new words first slot pin
marks-one order old new words first slot pin rank is room inserted = record {
  room = room;
  kept = λ m. inserted-keeps old new rank m (inserted m);
  here = λ cells clock flop. inl (ap (has new) (sym is) ∙ inserted rank ∙ or_left (rank == rank) (has old rank) (eq-eqb rank rank refl));
}

-- the marks, while the flip-flops of a group are looked at one by one: so many of them are marked or rest
pub record AreMarking (order : Order) (words : ℕ → ℕ → Level) (first : ℕ) (group : Group) (upto : ℕ) (old now : List ℕ) : Type 0 where
  pub room : length now ≡ length old
  pub kept : (m : ℕ) → has old m ≡ true → has now m ≡ true
  pub marked : (cells : List Cell) → IsGroup cells group → (k : ℕ) → k < upto → IsMarkedOrRests (is_marked order now) words first cells (get_or group.flops.items k 0)

module _ (order : Order) (words : ℕ → ℕ → Level) (first : ℕ) (group : Group) (k slot net : ℕ) (old now next : List ℕ)
    (inside : k < length group.flops.items) (slot_is : slot ≡ get_or group.flops.items k slot) (net_is : net ≡ get_or group.sources.items k net)
    (marking : AreMarking order words first group k old now) (one : MarksOne order now next words first slot (record { net = net; delay = group.delay })) where
  marked-next : (cells : List Cell) → IsGroup cells group → (j : ℕ) → j < k + 1 → (j < k) ⊎ (k ≤ j) → IsMarkedOrRests (is_marked order next) words first cells (get_or group.flops.items j 0)
  marked-next cells is j below (inl l) = rests-kept order now next words first cells (get_or group.flops.items j 0) one.kept (marking.marked cells is j l)
  marked-next cells is j below (inr l) =
      let at : k ≡ j = omega (arith, l, below) in
      let here : slot ≡ get_or group.flops.items j 0 = slot_is ∙ get_or_default group.flops.items k slot 0 inside ∙ ap (λ n. get_or group.flops.items n 0) at in
      subst (IsMarkedOrRests (is_marked order next) words first cells) here (one.here cells group.clock (group-read cells group is k slot net inside slot_is net_is))

  pub marking-more : AreMarking order words first group (k + 1) old next
  marking-more = record {
    room = one.room ∙ marking.room;
    kept = λ m h. one.kept m (marking.kept m h);
    marked = λ cells is j below. marked-next cells is j below (cases_lt j k);
  }

pub marking-all : (order : Order) (words : ℕ → ℕ → Level) (first : ℕ) (group : Group) (upto : ℕ) (old now : List ℕ) → length group.flops.items ≤ upto → AreMarking order words first group upto old now
    → (cells : List Cell) → IsGroup cells group → All (IsMarkedOrRests (is_marked order now) words first cells) group.flops.items
marking-all order words first group upto old now all marking cells is k d small =
    subst (λ (slot : ℕ). IsMarkedOrRests (is_marked order now) words first cells slot) (get_or_default group.flops.items k 0 d small) (marking.marked cells is k (omega (arith, all, small)))

-- no place of a window is one at which samples arrive that do so first behind it
pub none-arrives : (clock : Clock) (delay to first arrival place : ℕ) (others : ℕ → Bool) → 64 ≤ arrival → place < 64
    → arrives_by clock delay (to + place - 64) ≡ (nat_le arrival place && others place) → arrives_by clock delay (to + place - 64) ≡ true → ⊥
none-arrives clock delay to first arrival place others late small by arrives =
    false≢true (sym (by ∙ and_left (nat_le arrival place) (others place) (lt-leb arrival place (omega (arith, late, small)))) ∙ arrives)
