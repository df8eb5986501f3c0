-- A sweep makes what it passes true one place further.
use Rattle.std.proofs.Common.{◌≡◌, ◌≢◌, ℕ, zero, suc, ◌+◌, ◌-◌, ◌*◌, ◌<◌, ◌≤◌, ◌⊎◌, inl, inr, true, false, ◌||◌, ◌==◌, Bool, List, [], length, get_or, sym, ap, subst, ◌∙◌, arith}
use Rattle.std.proofs.lemmas.Bool.{cases_Bool, cases_lt, cases_eq, eq-eqb, or_left, or_right, false≢true}
use Rattle.cmb_wave.specs.declared.level.Level.{Level}
use Rattle.cmb_engine.specs.Inner.Bits.{has, HasNone}
use Rattle.cmb_engine.specs.Inner.Batches.{IsSetAt, IsTaken, Makes, Passes}
use Rattle.cmb_engine.specs.Inner.Cells.{Cell, Nodes, is_flop, is_gate, is_made, AreClosed, AreFanout, AreReaders, IsMade, IsReadable, IsReady, IsSettled, IsTrueBelow, IsWired, AreSettled, KeepsTold, Relies, cell_at}
use Rattle.cmb_engine.specs.Inner.Orders.{Order, IsAt, IsOrder, IsPlaced, is_marked, rank_in}
use Rattle.cmb_engine.specs.Inner.Sweeps.{Sweeps}
use Rattle.cmb_engine.proofs.CellFacts.{each-weaker, made-true, settled-true}
use Rattle.cmb_engine.proofs.TraceFacts.{made-inside}
use Rattle.cmb_engine.proofs.VisitFacts.{kept-false, reader-marked}

-- the true words stay ready where the told words stay
pub ready-moves : (f g truth : ℕ → ℕ → Level) (cells : ℕ → Cell) (to first : ℕ) → KeepsTold f g cells → IsReady f truth cells to first → IsReady g truth cells to first
ready-moves f g truth cells to first told ready = record {
  later = ready.later;
  true_settled = ready.true_settled;
  readable = λ net place made from small.
      each-weaker (IsReadable f truth cells place) (IsReadable g truth cells place) to (cells net) place
      (λ pin h. (h.0, λ other. told pin.net (place - pin.delay) other ∙ h.1 other)) (ready.readable net place made from small);
}

-- a net that was visited is true one place further
module _ (f g truth : ℕ → ℕ → Level) (cells : ℕ → Cell) (to first upto net : ℕ) (ready : IsReady f truth cells to first) (from : first ≤ upto) (small : upto < 64)
    (below : IsTrueBelow f truth cells upto) (past : (place : ℕ) → place < first → g net place ≡ f net place) (made : IsMade f (g net) to first (cells net)) where
  visited-at : is_made (cells net) ≡ true → (place : ℕ) → place ≤ upto → (place < first) ⊎ (first ≤ place) → (first ≤ place → g net (place - 1) ≡ truth net (place - 1))
      → g net place ≡ truth net place
  visited-at is place within (inl l) before = past place l ∙ below net place is (omega (arith, from))
  visited-at is place within (inr l) before =
      made place l (omega (arith, small))
      ∙ made-true f truth cells to first ready (g net) net place is l (omega (arith, small)) (λ m q a k. below m q a (omega arith)) (before l)

  pub visited-true : is_made (cells net) ≡ true → (place : ℕ) → place ≤ upto → g net place ≡ truth net place
  visited-true is zero within = visited-at is zero within (cases_lt zero first) (λ l. absurd (omega (arith, l, ready.later)))
  visited-true is (suc place) within = visited-at is (suc place) within (cases_lt (suc place) first)
      (λ l. let e : place ≡ suc place - 1 = omega arith in subst (λ (p : ℕ). g net p ≡ truth net p) e (visited-true is place (omega arith)))

-- how far a sweep has come that is about to pass a rank
pub record IsFurther (words truth : ℕ → ℕ → Level) (cells : ℕ → Cell) (order : Order) (upto from : ℕ) : Type 0 where
  pub below : IsTrueBelow words truth cells upto
  pub passed : (net : ℕ) → is_made (cells net) ≡ true → rank_in order net < from → words net upto ≡ truth net upto

-- what a sweep needs of the words that it begins with
pub record IsBegun (words truth : ℕ → ℕ → Level) (marked : ℕ → Bool) (cells : ℕ → Cell) (to first upto : ℕ) : Type 0 where
  pub from : first ≤ upto
  pub small : upto < 64
  pub ready : IsReady words truth cells to first
  pub settled : AreSettled words marked cells to first
  pub below : IsTrueBelow words truth cells upto

-- slots that aren't marked are settled, and so true one place further
pub unmarked-true : (words truth : ℕ → ℕ → Level) (cells : ℕ → Cell) (marked : ℕ → Bool) (to first upto : ℕ) → IsReady words truth cells to first → first ≤ upto → upto < 64
    → AreSettled words marked cells to first → (net : ℕ) → IsTrueBelow words truth cells upto → is_made (cells net) ≡ true → marked net ≡ false → words net upto ≡ truth net upto
unmarked-true words truth cells marked to first upto ready from small settled net below is none =
    settled net is none upto from small
    ∙ made-true words truth cells to first ready (words net) net upto is from small below (below net (upto - 1) is (omega (arith, ready.later)))

-- the told words stay in a visit
pub told-visit : (f g : ℕ → ℕ → Level) (cells : ℕ → Cell) (net : ℕ) → ((m place : ℕ) → m ≢ net → g m place ≡ f m place)
    → (is_made (cells net) ≡ false → (place : ℕ) → g net place ≡ f net place) → KeepsTold f g cells
told-visit f g cells net others told m place is = go (cases_eq m net)
  where
    go : (m ≡ net) ⊎ (m ≡ net → ⊥) → g m place ≡ f m place
    go (inl e) = subst (λ (n : ℕ). g n place ≡ f n place) (sym e) (told (subst (λ (n : ℕ). is_made (cells n) ≡ false) e is) place)
    go (inr k) = others m place k

-- a number put in a set
pub inserted-keeps : (old new : List ℕ) (n m : ℕ) → has new m ≡ (m == n || has old m) → has old m ≡ true → has new m ≡ true
inserted-keeps old new n m is h = is ∙ or_right (m == n) (has old m) h

pub inserted-other : (old new : List ℕ) (n m : ℕ) → has new m ≡ (m == n || has old m) → has new m ≡ false → m ≢ n
inserted-other old new n m is none e = false≢true (sym none ∙ is ∙ or_left (m == n) (has old m) (eq-eqb m n e))

pub inserted-none : (old new : List ℕ) (n m : ℕ) → has new m ≡ (m == n || has old m) → has new m ≡ false → has old m ≡ false
inserted-none old new n m is none = kept-false old new m (inserted-keeps old new n m is) none

pub sweeps-on : (cells : ℕ → Cell) (order : Order) (to first : ℕ) (f g h : ℕ → ℕ → Level) (marks marked left live more most : List ℕ) → Sweeps cells order to first f g marks marked live more
    → Sweeps cells order to first g h marked left more most → Sweeps cells order to first f h marks left live most
sweeps-on cells order to first f g h marks marked left live more most one two = record {
  room = two.room ∙ one.room;
  live_room = two.live_room ∙ one.live_room;
  told = λ net place is. two.told net place is ∙ one.told net place is;
  kept = λ m is. two.kept m (one.kept m is);
  same = λ m place small none. two.same m place small none ∙ one.same m place small (kept-false more most m (two.kept m) none);
  settled = λ settled. two.settled (one.settled settled);
}

-- ---- the marks of made slots

module _ (cells : List Cell) (order : Order) (ordered : IsOrder order) (ranked : length order.ranks ≡ length cells) where
  pub made-placed : (m : ℕ) → is_made (cell_at cells m) ≡ true → IsPlaced order m
  made-placed m is = ordered.stands m (omega (arith, ranked, made-inside cells m is))

  -- where no mark is left from a rank on, those that were passed are all
  pub further-all : (words truth : ℕ → ℕ → Level) (marks : List ℕ) (to first upto from : ℕ) → IsReady words truth (cell_at cells) to first → first ≤ upto → upto < 64
      → AreSettled words (is_marked order marks) (cell_at cells) to first → length order.slots ≤ 64 * length marks → HasNone marks from (64 * length marks)
      → IsFurther words truth (cell_at cells) order upto from → IsTrueBelow words truth (cell_at cells) (upto + 1)
  further-all words truth marks to first upto from ready late small settled room none h net place is l = go (cases_lt place upto) (cases_lt (rank_in order net) from)
    where
      go : (place < upto) ⊎ (upto ≤ place) → (rank_in order net < from) ⊎ (from ≤ rank_in order net) → words net place ≡ truth net place
      go (inl k) _ = h.below net place is k
      go (inr k) (inl j) = let e : place ≡ upto = omega (arith, l, k) in ap (words net) e ∙ h.passed net is j ∙ ap (truth net) (sym e)
      go (inr k) (inr j) =
          let e : place ≡ upto = omega (arith, l, k) in
          ap (words net) e
          ∙ unmarked-true words truth (cell_at cells) (is_marked order marks) to first upto ready late small settled net h.below is
          (none (rank_in order net) j (omega (arith, room, (made-placed net is).below)))
          ∙ ap (truth net) (sym e)

  -- where nothing is marked and all is settled, made words that are true below the window are true
  pub none-marked : (words truth : ℕ → ℕ → Level) (marks : List ℕ) (to first : ℕ) → length order.slots ≤ 64 * length marks → HasNone marks 0 (64 * length marks)
      → IsReady words truth (cell_at cells) to first → AreSettled words (is_marked order marks) (cell_at cells) to first → IsTrueBelow words truth (cell_at cells) first
      → IsTrueBelow words truth (cell_at cells) 64
  none-marked words truth marks to first room none ready settled below =
      settled-true words truth (cell_at cells) to first ready below
      (λ net is. settled net is (none (rank_in order net) (omega arith) (omega (arith, room, (made-placed net is).below))))

-- ---- a batch was taken, made and passed on

module _ (cells : List Cell) (order : Order) (nodes : Nodes) (gates flops : List (List ℕ)) (count to first : ℕ) (wired : IsWired cells order nodes gates flops count first) (opened : Bool)
    (closed : opened ≡ false → AreClosed (cell_at cells) to first) (f g : ℕ → ℕ → Level) (marks taken marked live more : List ℕ) (from upto base places news : ℕ)
    (take : IsTaken marks taken from upto base places) (makes : Makes (cell_at cells) order to first base places news f g)
    (passes : Passes order base news gates flops opened taken marked live more) where
  at : (m : ℕ) → is_made (cell_at cells m) ≡ true → IsSetAt base places (rank_in order m) → IsAt order base places m
  at m is set =
      let placed : IsPlaced order m = made-placed cells order wired.ordered (wired.ranked ∙ sym wired.nets) m is in
      record {
        place = set.place;
        small = set.small;
        set = set.set;
        inside = omega (arith, placed.below, set.is);
        stands = ap (λ (n : ℕ). get_or order.slots n 0) (sym set.is) ∙ placed.stands;
      }

  relied : (m : ℕ) → is_marked order marked m ≡ false → (slot : ℕ) → IsAt order base news slot → Relies opened (cell_at cells m) slot → ⊥
  relied m none slot is r = go r.1
    where
      those : (is_such : Cell → Bool) (lists : List (List ℕ)) → AreFanout is_such cells order lists → AreReaders is_such cells (rank_in order) slot (get_or lists (base + is.place) [])
      those is_such lists fanout =
          subst (λ (n : ℕ). AreReaders is_such cells (rank_in order) n (get_or lists (base + is.place) [])) is.stands (fanout.readers_of (base + is.place) is.inside)

      go : (is_gate (cell_at cells m) ≡ true) ⊎ ((is_flop (cell_at cells m) ≡ true) × (opened ≡ true)) → ⊥
      go (inl gate) =
          reader-marked is_gate cells (rank_in order) slot (get_or gates (base + is.place) []) marked (those is_gate gates wired.gates) (passes.gates is.place is.small is.set is.inside) m none gate r.0
      go (inr flop) =
          reader-marked is_flop cells (rank_in order) slot (get_or flops (base + is.place) []) marked (those is_flop flops wired.flops) (passes.flops flop.1 is.place is.small is.set is.inside) m none flop.0 r.0

  was : (m : ℕ) → is_made (cell_at cells m) ≡ true → is_marked order marked m ≡ false → AreSettled f (is_marked order marks) (cell_at cells) to first
      → (is_marked order marks m ≡ true) ⊎ (is_marked order marks m ≡ false) → IsSettled f to first m (cell_at cells m) ⊎ IsAt order base places m
  was m is none settled (inl h) = inr (at m is (take.left (rank_in order m) h (kept-false taken marked (rank_in order m) (passes.kept (rank_in order m)) none)))
  was m is none settled (inr h) = inl (settled m is h)

  pub batch-sweeps : Sweeps (cell_at cells) order to first f g marks marked live more
  batch-sweeps = record {
    room = passes.room ∙ take.room;
    live_room = passes.live_room;
    told = makes.told;
    kept = passes.live;
    same = λ m place small none. makes.same m place small (λ h. false≢true (sym none ∙ passes.lives m h));
    settled = λ settled m is none. makes.settled opened closed m is (was m is none settled (cases_Bool (is_marked order marks m))) (relied m none);
  }

  pub batch-further : (truth : ℕ → ℕ → Level) (q : ℕ) → first ≤ q → q < 64 → IsReady f truth (cell_at cells) to first → AreSettled f (is_marked order marks) (cell_at cells) to first
      → IsFurther f truth (cell_at cells) order q from → IsFurther g truth (cell_at cells) order q upto
  batch-further truth q late small ready settled h = record {
    below = makes.below truth q late small ready h.below;
    passed = λ m is l. makes.truer truth q late small ready h.below m is (true-before m is l (cases_lt (rank_in order m) from) (cases_Bool (is_marked order marks m)));
  }
    where
      true-before : (m : ℕ) → is_made (cell_at cells m) ≡ true → rank_in order m < upto → (rank_in order m < from) ⊎ (from ≤ rank_in order m)
          → (is_marked order marks m ≡ true) ⊎ (is_marked order marks m ≡ false) → (f m q ≡ truth m q) ⊎ IsAt order base places m
      true-before m is l (inl before) _ = inl (h.passed m is before)
      true-before m is l (inr k) (inl marks_m) = inr (at m is (take.passed (rank_in order m) k l marks_m))
      true-before m is l (inr k) (inr none) = inl (unmarked-true f truth (cell_at cells) (is_marked order marks) to first q ready late small settled m h.below is none)
