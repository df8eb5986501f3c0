-- How the words of a batch of slots are made, one after another, and what they pass on.
use Rattle.std.proofs.Common.{◌≡◌, ◌≢◌, ℕ, ◌+◌, ◌<◌, ◌≤◌, ◌⊎◌, inl, inr, Bool, true, false, ◌||◌, ◌==◌, List, [], ◌∷◌, length, map, get_or, refl, sym, ap, subst, ◌∙◌, arith}
use Rattle.std.specs.Prelude.{All, Contains}
use Rattle.std.proofs.lemmas.Bool.{cases_Bool, cases_eq, eq-eqb, or_left, or_right}
use Rattle.std.proofs.lemmas.List.{get_or-map}
use Rattle.std.proofs.lemmas.List.Elements.{All-same, All-weaker, Contains-append_cases, Contains-push_cases}
use Rattle.cmb_wave.specs.declared.level.Level.{Level}
use Rattle.cmb_words.specs.Bits.{is_set_at, places_set}
use Rattle.cmb_words.proofs.MaskFacts.{places-all, places-each}
use Rattle.cmb_engine.specs.Inner.Batches.{Makes, Passes}
use Rattle.cmb_engine.specs.Inner.Bits.{has}
use Rattle.cmb_engine.specs.Inner.Cells.{Cell, Nodes, Told, AreClosed, AreMarked, IsMade, IsReady, IsSettled, IsTrueBelow, KeepsTold, Relies, cell_at, is_made}
use Rattle.cmb_engine.specs.Inner.Orders.{Order, IsAmong, IsAt}
use Rattle.cmb_engine.proofs.SweepFacts.{inserted-keeps, ready-moves, told-visit, visited-true}
use Rattle.cmb_engine.proofs.VisitFacts.{cell-agrees, made-same, same-both, visit-settles}

-- ---- the places that are left

-- each of them is one of a word
pub left-small : (left : List ℕ) (places : ℕ) → left ≡ places_set places → All (λ place. place < 64) left
left-small left places is =
    All-same (λ (place : ℕ). place < 64) left (places_set places) is
    (All-weaker (λ place. (place < 64) × (is_set_at places place ≡ true)) (λ place. place < 64) (λ place h. h.0) (places_set places) (places-each places))

-- a listed place is the first one or one of the others
left-cases : (place : ℕ) (rest left : List ℕ) → left ≡ place ∷ rest → (q : ℕ) → Contains left q → (place ≡ q) ⊎ Contains rest q
left-cases place rest left is q listed = go (Contains-append_cases (place ∷ []) rest q (subst (λ (xs : List ℕ). Contains xs q) is listed))
  where
    go : Contains (place ∷ []) q ⊎ Contains rest q → (place ≡ q) ⊎ Contains rest q
    go (inl one) = at (Contains-push_cases [] place q one)
      where
        at : Contains [] q ⊎ (place ≡ q) → (place ≡ q) ⊎ Contains rest q
        at (inl none) = absurd (omega (arith, none.1))
        at (inr e) = inl e
    go (inr more) = inr more

-- so is the place of a listed slot
among-cases : (order : Order) (base place : ℕ) (rest left : List ℕ) → left ≡ place ∷ rest → (slot : ℕ) → IsAmong order base left slot
    → ((base + place < length order.slots) × (get_or order.slots (base + place) 0 ≡ slot)) ⊎ IsAmong order base rest slot
among-cases order base place rest left is slot h = go (left-cases place rest left is h.place h.listed)
  where
    go : (place ≡ h.place) ⊎ Contains rest h.place → ((base + place < length order.slots) × (get_or order.slots (base + place) 0 ≡ slot)) ⊎ IsAmong order base rest slot
    go (inl e) = inl (omega (arith, h.inside, e), ap (λ (n : ℕ). get_or order.slots (base + n) 0) e ∙ h.stands)
    go (inr more) = inr (record { place = h.place; listed = more; inside = h.inside; stands = h.stands })

-- what has a set place has a listed one
at-among : (order : Order) (base places slot : ℕ) → IsAt order base places slot → IsAmong order base (places_set places) slot
at-among order base places slot h = record { place = h.place; listed = places-all places h.place h.small h.set; inside = h.inside; stands = h.stands }

none-left : (left : List ℕ) → left ≡ [] → (q : ℕ) → Contains left q → ⊥
none-left left is q listed = let among : Contains [] q = subst (λ (xs : List ℕ). Contains xs q) is listed in absurd (omega (arith, among.1))

none-among : (order : Order) (base slot : ℕ) (left : List ℕ) → left ≡ [] → IsAmong order base left slot → ⊥
none-among order base slot left is h = none-left left is h.place h.listed

-- ---- words are made one after another

-- how far the words of a batch are made: those at the places that are left aren't
pub record IsMaking (cells : ℕ → Cell) (order : Order) (to first base places : ℕ) (left : List ℕ) (news : ℕ) (old now : ℕ → ℕ → Level) : Type 0 where
  pub told : KeepsTold old now cells
  pub same : (slot place : ℕ) → place < 64 → (IsAt order base news slot → ⊥) → now slot place ≡ old slot place
  pub settled : (opened : Bool) → (opened ≡ false → AreClosed cells to first) → (m : ℕ) → is_made (cells m) ≡ true → IsSettled old to first m (cells m) ⊎ IsAt order base places m
      → (IsAmong order base left m → ⊥) → ((slot : ℕ) → IsAt order base news slot → Relies opened (cells m) slot → ⊥) → IsSettled now to first m (cells m)
  pub below : (truth : ℕ → ℕ → Level) (upto : ℕ) → first ≤ upto → upto < 64 → IsReady old truth cells to first → IsTrueBelow old truth cells upto → IsTrueBelow now truth cells upto
  pub truer : (truth : ℕ → ℕ → Level) (upto : ℕ) → first ≤ upto → upto < 64 → IsReady old truth cells to first → IsTrueBelow old truth cells upto
      → (m : ℕ) → is_made (cells m) ≡ true → (old m upto ≡ truth m upto) ⊎ IsAt order base places m → (IsAmong order base left m → ⊥) → now m upto ≡ truth m upto

pub making-none : (cells : ℕ → Cell) (order : Order) (to first base places : ℕ) (left : List ℕ) (news : ℕ) (old : ℕ → ℕ → Level) → left ≡ places_set places
    → IsMaking cells order to first base places left news old old
making-none cells order to first base places left news old is = record {
  told = λ net place told. refl;
  same = λ slot place small none. refl;
  settled = λ opened closed m made was none relied. go (IsSettled old to first m (cells m)) m was none;
  below = λ truth upto from small ready below. below;
  truer = λ truth upto from small ready below m made was none. go (old m upto ≡ truth m upto) m was none;
}
  where
    go : (P : Type 0) (m : ℕ) → P ⊎ IsAt order base places m → (IsAmong order base left m → ⊥) → P
    go P m (inl p) none = p
    go P m (inr at) none = absurd (none (subst (λ (xs : List ℕ). IsAmong order base xs m) (sym is) (at-among order base places m at)))

pub making-all : (cells : ℕ → Cell) (order : Order) (to first base places : ℕ) (left : List ℕ) (news : ℕ) (old now : ℕ → ℕ → Level) → left ≡ []
    → IsMaking cells order to first base places left news old now → Makes cells order to first base places news old now
making-all cells order to first base places left news old now is h = record {
  told = h.told;
  same = h.same;
  settled = λ opened closed m made was relied. h.settled opened closed m made was (none-among order base m left is) relied;
  below = h.below;
  truer = λ truth upto from small ready below m made was. h.truer truth upto from small ready below m made was (none-among order base m left is);
}

-- a place has no slot
pub making-skips : (cells : ℕ → Cell) (order : Order) (to first base places place : ℕ) (rest left : List ℕ) (news : ℕ) (old now : ℕ → ℕ → Level) → left ≡ place ∷ rest
    → length order.slots ≤ base + place → IsMaking cells order to first base places left news old now → IsMaking cells order to first base places rest news old now
making-skips cells order to first base places place rest left news old now is past h = record {
  told = h.told;
  same = h.same;
  settled = λ opened closed m made was none relied. h.settled opened closed m made was (less m none) relied;
  below = h.below;
  truer = λ truth upto from small ready below m made was none. h.truer truth upto from small ready below m made was (less m none);
}
  where
    less : (m : ℕ) → (IsAmong order base rest m → ⊥) → IsAmong order base left m → ⊥
    less m none among = go (among-cases order base place rest left is m among)
      where
        go : ((base + place < length order.slots) × (get_or order.slots (base + place) 0 ≡ m)) ⊎ IsAmong order base rest m → ⊥
        go (inl h) = absurd (omega (arith, h.0, past))
        go (inr h) = none h

-- the slot at a place
module _ (order : Order) (base place : ℕ) (rest left : List ℕ) (is : left ≡ place ∷ rest) (slot : ℕ) (at : slot ≡ get_or order.slots (base + place) 0) where
  -- another slot isn't among those that are left where it isn't among the rest
  less : (m : ℕ) → (IsAmong order base rest m → ⊥) → m ≢ slot → IsAmong order base left m → ⊥
  less m none other among = go (among-cases order base place rest left is m among)
    where
      go : ((base + place < length order.slots) × (get_or order.slots (base + place) 0 ≡ m)) ⊎ IsAmong order base rest m → ⊥
      go (inl h) = other (sym h.1 ∙ sym at)
      go (inr h) = none h

-- its word is made
module _ (cells : ℕ → Cell) (order : Order) (to first base places place : ℕ) (rest left : List ℕ) (is : left ≡ place ∷ rest) (news more : ℕ) (old f g : ℕ → ℕ → Level)
    (slot : ℕ) (inside : base + place < length order.slots) (at : slot ≡ get_or order.slots (base + place) 0) (small : place < 64) (begun : 1 ≤ first)
    (others : (m q : ℕ) → m ≢ slot → g m q ≡ f m q) (past : (q : ℕ) → q < first → g slot q ≡ f slot q) (told : is_made (cells slot) ≡ false → (q : ℕ) → g slot q ≡ f slot q)
    (made : IsMade f (g slot) to first (cells slot)) (differs : Bool) (kept : differs ≡ false → (q : ℕ) → q < 64 → g slot q ≡ f slot q)
    (here : is_set_at more place ≡ (differs || is_set_at news place)) (there : (i : ℕ) → i ≢ place → is_set_at more i ≡ is_set_at news i)
    (h : IsMaking cells order to first base places left news old f) where
  at-slot : differs ≡ true → IsAt order base more slot
  at-slot d = record { place = place; small = small; set = here ∙ or_left differs (is_set_at news place) d; inside = inside; stands = sym at }

  at-more : (m : ℕ) → IsAt order base news m → IsAt order base more m
  at-more m n = record { place = n.place; small = n.small; set = go (cases_eq n.place place); inside = n.inside; stands = n.stands }
    where
      go : (n.place ≡ place) ⊎ (n.place ≡ place → ⊥) → is_set_at more n.place ≡ true
      go (inl e) = ap (is_set_at more) e ∙ here ∙ or_right differs (is_set_at news place) (ap (is_set_at news) (sym e) ∙ n.set)
      go (inr other) = there n.place other ∙ n.set

  -- where nothing relies on the new word it is the old one
  unchanged : (P : Type 0) → (IsAt order base more slot → P → ⊥) → P → (q : ℕ) → q < 64 → g slot q ≡ f slot q
  unchanged P none p q l = go (cases_Bool differs)
    where
      go : (differs ≡ true) ⊎ (differs ≡ false) → g slot q ≡ f slot q
      go (inl d) = absurd (none (at-slot d) p)
      go (inr d) = kept d q l

  pub making-visits : IsMaking cells order to first base places rest more old g
  making-visits = record {
    told = λ net q t. told-visit f g cells slot others told net q t ∙ h.told net q t;
    same = λ m q l none. same m q l none (cases_eq m slot) ∙ h.same m q l (λ n. none (at-more m n));
    settled = λ opened closed m mades was none relied.
        visit-settles f g slot to first begun others past cells made m mades
        (cell-agrees f g slot to first begun others past opened (cells m) (λ isnt clock pin e. closed isnt m clock pin e)
        (λ relies. unchanged (Relies opened (cells m) slot) (λ n r. relied slot n r) relies))
        (λ other. h.settled opened closed m mades was (less order base place rest left is slot at m none other) (λ s n r. relied s (at-more s n) r));
    below = λ truth upto from little ready below m q is_made' l. lower truth upto from little ready below m q is_made' l (cases_eq m slot);
    truer = λ truth upto from little ready below m is_made' was none. true-at truth upto from little ready below m is_made' was none (cases_eq m slot);
  }
    where
      same : (m q : ℕ) → q < 64 → (IsAt order base more m → ⊥) → (m ≡ slot) ⊎ (m ≡ slot → ⊥) → g m q ≡ f m q
      same m q l none (inl e) =
          subst (λ (n : ℕ). g n q ≡ f n q) (sym e)
          (unchanged (Unit {0}) (λ n u. none (subst (λ (i : ℕ). IsAt order base more i) (sym e) n)) tt q l)
      same m q l none (inr other) = others m q other

      lower : (truth : ℕ → ℕ → Level) (upto : ℕ) → first ≤ upto → upto < 64 → IsReady old truth cells to first → IsTrueBelow old truth cells upto
          → (m q : ℕ) → is_made (cells m) ≡ true → q < upto → (m ≡ slot) ⊎ (m ≡ slot → ⊥) → g m q ≡ truth m q
      lower truth upto from little ready below m q is_made' l (inl e) =
          subst (λ (n : ℕ). g n q ≡ truth n q) (sym e)
          (visited-true f g truth cells to first upto slot (ready-moves old f truth cells to first h.told ready) from little (h.below truth upto from little ready below) past made
          (subst (λ (n : ℕ). is_made (cells n) ≡ true) e is_made') q (omega arith))
      lower truth upto from little ready below m q is_made' l (inr other) = others m q other ∙ h.below truth upto from little ready below m q is_made' l

      true-at : (truth : ℕ → ℕ → Level) (upto : ℕ) → first ≤ upto → upto < 64 → IsReady old truth cells to first → IsTrueBelow old truth cells upto
          → (m : ℕ) → is_made (cells m) ≡ true → (old m upto ≡ truth m upto) ⊎ IsAt order base places m → (IsAmong order base rest m → ⊥)
          → (m ≡ slot) ⊎ (m ≡ slot → ⊥) → g m upto ≡ truth m upto
      true-at truth upto from little ready below m is_made' was none (inl e) =
          subst (λ (n : ℕ). g n upto ≡ truth n upto) (sym e)
          (visited-true f g truth cells to first upto slot (ready-moves old f truth cells to first h.told ready) from little (h.below truth upto from little ready below) past made
          (subst (λ (n : ℕ). is_made (cells n) ≡ true) e is_made') upto (omega arith))
      true-at truth upto from little ready below m is_made' was none (inr other) =
          others m upto other ∙ h.truer truth upto from little ready below m is_made' was (less order base place rest left is slot at m none other)

-- what the cell of a rank made is written as the word of its slot
pub making-writes : (cells : List Cell) (nodes : Nodes) (order : Order) → nodes.slots ≡ order.slots → nodes.cells ≡ map (cell_at cells) order.slots
    → (to first base places place : ℕ) (rest left : List ℕ) → left ≡ place ∷ rest → (news more : ℕ) (old f g : ℕ → ℕ → Level)
    → (slot : ℕ) → base + place < length nodes.slots → slot ≡ get_or nodes.slots (base + place) 0 → place < 64 → 1 ≤ first
    → (word : ℕ → Level) → ((q : ℕ) → g slot q ≡ word q) → ((m q : ℕ) → m ≢ slot → g m q ≡ f m q)
    → ((q : ℕ) → q < first → word q ≡ f slot q) → (is_made (cell_at nodes.cells (base + place)) ≡ false → (q : ℕ) → word q ≡ f slot q)
    → IsMade f word to first (cell_at nodes.cells (base + place)) → (differs : Bool) → (differs ≡ false → (q : ℕ) → first ≤ q → q < 64 → word q ≡ f slot q)
    → is_set_at more place ≡ (differs || is_set_at news place) → ((i : ℕ) → i ≢ place → is_set_at more i ≡ is_set_at news i)
    → IsMaking (cell_at cells) order to first base places left news old f → IsMaking (cell_at cells) order to first base places rest more old g
making-writes cells nodes order same_slots in_order to first base places place rest left is news more old f g slot within read small begun word written others below told made differs kept here there h =
    let inside : base + place < length order.slots = subst (λ (slots : List ℕ). base + place < length slots) same_slots within in
    let at : slot ≡ get_or order.slots (base + place) 0 = read ∙ ap (λ (slots : List ℕ). get_or slots (base + place) 0) same_slots in
    let stands : cell_at nodes.cells (base + place) ≡ cell_at cells slot =
    ap (λ (ns : List Cell). cell_at ns (base + place)) in_order ∙ get_or-map (cell_at cells) order.slots (base + place) 0 Told inside ∙ ap (cell_at cells) (sym at) in
    making-visits (cell_at cells) order to first base places place rest left is news more old f g slot inside at small begun others
    (λ q l. written q ∙ below q l)
    (λ none q. written q ∙ told (ap is_made stands ∙ none) q)
    (made-same f word (g slot) to first (cell_at cells slot) begun (λ q l. sym (written q)) (subst (λ (cell : Cell). IsMade f word to first cell) stands made))
    differs (λ same q l. written q ∙ same-both word (f slot) first below (kept same) q l) here there h

-- ---- what is passed on

-- the lists at the set places of a word are marked, but at those that are left
abbrev pub AreReached : Order → ℕ → ℕ → List ℕ → List (List ℕ) → List ℕ → Type 0
AreReached order base news left lists marks =
    (place : ℕ) → place < 64 → is_set_at news place ≡ true → base + place < length order.slots → (Contains left place → ⊥) → AreMarked (has marks) (get_or lists (base + place) [])

-- how far a batch is passed on: the places that are left aren't
pub record IsPassing (order : Order) (base news : ℕ) (left : List ℕ) (gates flops : List (List ℕ)) (opened : Bool) (old_marks now_marks old_live now_live : List ℕ) : Type 0 where
  pub room : length now_marks ≡ length old_marks
  pub live_room : length now_live ≡ length old_live
  pub kept : (m : ℕ) → has old_marks m ≡ true → has now_marks m ≡ true
  pub live : (m : ℕ) → has old_live m ≡ true → has now_live m ≡ true
  pub lives : (slot : ℕ) → IsAt order base news slot → (IsAmong order base left slot → ⊥) → has now_live slot ≡ true
  pub to_gates : AreReached order base news left gates now_marks
  pub to_flops : opened ≡ true → AreReached order base news left flops now_marks

pub passing-none : (order : Order) (base news : ℕ) (left : List ℕ) (gates flops : List (List ℕ)) (opened : Bool) (marks live : List ℕ) → left ≡ places_set news
    → IsPassing order base news left gates flops opened marks marks live live
passing-none order base news left gates flops opened marks live is = record {
  room = refl;
  live_room = refl;
  kept = λ m h. h;
  live = λ m h. h;
  lives = λ slot at none. absurd (none (listed slot at));
  to_gates = λ place small set inside none. absurd (none (found place small set));
  to_flops = λ o place small set inside none. absurd (none (found place small set));
}
  where
    listed : (slot : ℕ) → IsAt order base news slot → IsAmong order base left slot
    listed slot at = subst (λ (xs : List ℕ). IsAmong order base xs slot) (sym is) (at-among order base news slot at)

    found : (place : ℕ) → place < 64 → is_set_at news place ≡ true → Contains left place
    found place small set = subst (λ (xs : List ℕ). Contains xs place) (sym is) (places-all news place small set)

pub passing-all : (order : Order) (base news : ℕ) (left : List ℕ) (gates flops : List (List ℕ)) (opened : Bool) (old_marks now_marks old_live now_live : List ℕ) → left ≡ []
    → IsPassing order base news left gates flops opened old_marks now_marks old_live now_live → Passes order base news gates flops opened old_marks now_marks old_live now_live
passing-all order base news left gates flops opened old_marks now_marks old_live now_live is h = record {
  room = h.room;
  live_room = h.live_room;
  kept = h.kept;
  live = h.live;
  lives = λ slot at. h.lives slot at (none-among order base slot left is);
  gates = λ place small set inside. h.to_gates place small set inside (none-left left is place);
  flops = λ o place small set inside. h.to_flops o place small set inside (none-left left is place);
}

pub passing-skips : (order : Order) (base news place : ℕ) (rest left : List ℕ) (gates flops : List (List ℕ)) (opened : Bool) (old_marks now_marks old_live now_live : List ℕ)
    → left ≡ place ∷ rest → length order.slots ≤ base + place → IsPassing order base news left gates flops opened old_marks now_marks old_live now_live
    → IsPassing order base news rest gates flops opened old_marks now_marks old_live now_live
passing-skips order base news place rest left gates flops opened old_marks now_marks old_live now_live is past h = record {
  room = h.room;
  live_room = h.live_room;
  kept = h.kept;
  live = h.live;
  lives = λ slot at none. h.lives slot at (less' slot none);
  to_gates = λ q small set inside none. h.to_gates q small set inside (further q inside none);
  to_flops = λ o q small set inside none. h.to_flops o q small set inside (further q inside none);
}
  where
    less' : (m : ℕ) → (IsAmong order base rest m → ⊥) → IsAmong order base left m → ⊥
    less' m none among = go (among-cases order base place rest left is m among)
      where
        go : ((base + place < length order.slots) × (get_or order.slots (base + place) 0 ≡ m)) ⊎ IsAmong order base rest m → ⊥
        go (inl k) = absurd (omega (arith, k.0, past))
        go (inr k) = none k

    further : (q : ℕ) → base + q < length order.slots → (Contains rest q → ⊥) → Contains left q → ⊥
    further q inside none listed = go (left-cases place rest left is q listed)
      where
        go : (place ≡ q) ⊎ Contains rest q → ⊥
        go (inl e) = absurd (omega (arith, e, inside, past))
        go (inr more) = none more

module _ (order : Order) (base news place : ℕ) (rest left : List ℕ) (is : left ≡ place ∷ rest) (gates flops : List (List ℕ)) (opened : Bool)
    (old_marks marks marked more_marked old_live live more_live : List ℕ) (slot : ℕ) (at : slot ≡ get_or order.slots (base + place) 0)
    (live_len : length more_live ≡ length live) (inserted : (m : ℕ) → has more_live m ≡ (m == slot || has live m))
    (gates_len : length marked ≡ length marks) (gates_kept : (m : ℕ) → has marks m ≡ true → has marked m ≡ true) (gates_marked : AreMarked (has marked) (get_or gates (base + place) []))
    (flops_len : length more_marked ≡ length marked) (flops_kept : (m : ℕ) → has marked m ≡ true → has more_marked m ≡ true)
    (flops_marked : opened ≡ true → AreMarked (has more_marked) (get_or flops (base + place) []))
    (h : IsPassing order base news left gates flops opened old_marks marks old_live live) where
  all-kept : (numbers : List ℕ) → AreMarked (has marks) numbers → AreMarked (has more_marked) numbers
  all-kept numbers all k l = flops_kept (get_or numbers k 0) (gates_kept (get_or numbers k 0) (all k l))

  -- the lists of the places that were reached, and that of one more
  reached : (lists : List (List ℕ)) → AreReached order base news left lists marks → AreMarked (has more_marked) (get_or lists (base + place) [])
      → AreReached order base news rest lists more_marked
  reached lists so_far here q small set inside none = go (cases_eq q place)
    where
      go : (q ≡ place) ⊎ (q ≡ place → ⊥) → AreMarked (has more_marked) (get_or lists (base + q) [])
      go (inl e) = subst (λ (i : ℕ). AreMarked (has more_marked) (get_or lists (base + i) [])) (sym e) here
      go (inr other) = all-kept (get_or lists (base + q) []) (so_far q small set inside (λ listed. further (left-cases place rest left is q listed)))
        where
          further : (place ≡ q) ⊎ Contains rest q → ⊥
          further (inl e) = other (sym e)
          further (inr more) = none more

  pub passing-on : IsPassing order base news rest gates flops opened old_marks more_marked old_live more_live
  passing-on = record {
    room = flops_len ∙ gates_len ∙ h.room;
    live_room = live_len ∙ h.live_room;
    kept = λ m k. flops_kept m (gates_kept m (h.kept m k));
    live = λ m k. inserted-keeps live more_live slot m (inserted m) (h.live m k);
    lives = λ m n none. lives m n none (cases_eq m slot);
    to_gates = reached gates h.to_gates (λ k l. flops_kept _ (gates_marked k l));
    to_flops = λ o. reached flops (h.to_flops o) (flops_marked o);
  }
    where
      lives : (m : ℕ) → IsAt order base news m → (IsAmong order base rest m → ⊥) → (m ≡ slot) ⊎ (m ≡ slot → ⊥) → has more_live m ≡ true
      lives m n none (inl e) = inserted m ∙ or_left (m == slot) (has live m) (eq-eqb m slot e)
      lives m n none (inr other) = inserted-keeps live more_live slot m (inserted m) (h.lives m n (less order base place rest left is slot at m none other))
