-- What a board that is closed tells of its seats.
use Rattle.std.proofs.Common.{◌≡◌, ℕ, zero, suc, ◌+◌, ◌<◌, ◌≤◌, ◌==◌, Bool, true, List, [], ◌∷◌, ◌++◌, map, length, slice_index, sym, refl, ap, ◌∙◌, subst, arith, All, get_or, append_assoc, length-append}
use Rattle.std.specs.List.{range_with_len}
use Rattle.std.proofs.lemmas.List.Elements.{All-contains}
use Rattle.std.proofs.lemmas.List.{length-map, map-append}
use Rattle.std.proofs.lemmas.List.FromFn.{length-map-range_with_len, get_or-map-range_with_len}
use mathlib.Core.Option.{some}
use lib.ListN.{get_elem?}
use Rattle.atomic_table.specs.Seated.{TableId}
use Rattle.atomic_table.specs.Table.{State, Joins}
use Rattle.atomic_table.proofs.Lists.{at_map}
use Rattle.cmb_wave.specs.declared.level.Promise.{Promise}
use Rattle.cmb_design_model.specs.Exact.{nets_of}
use Rattle.cmb_links.specs.Promises.{promise, promise_of_word, newest}
use Rattle.cmb_links.specs.Seats.{SeatData, driver, AreAllSeats}
use Rattle.cmb_links.specs.Inner.BoardSteps.{joined}
use Rattle.cmb_links.specs.Boards.{IsBoard, IsKnown, EndsAs, published_at, promise_at, any_raised, some_raised, count_finished, number_finished}
use Rattle.cmb_links.specs.declared.view.BoardRun.{BoardRun}
use Rattle.cmb_links.specs.declared.view.View.{View}
use Rattle.cmb_links.proofs.Allowed.{S, Law}
use Rattle.cmb_links.proofs.EndWord.{finished_few}
use Rattle.cmb_links.proofs.Joined.{place_of, at_joined, joined-whole}
use Rattle.cmb_links.proofs.Newest.{newest-net, promise_of_word-word_of}
use Rattle.cmb_links.proofs.Loads.{one_or_none}
use Rattle.cmb_links.proofs.Seats.{gathers}
use Rattle.cmb_links.proofs.Steps.{loads}

-- ---- the order of seats

abbrev pub place : View → ℕ
place v = v.place

first_place : (v : View) (vs : List View) (k n : ℕ) → map place (v ∷ vs) ≡ range_with_len k n → v.place ≡ k
first_place v vs k zero e = let h : suc (length (map place vs)) ≡ 0 = ap length e in absurd (omega arith)
first_place v vs k (suc n) e = ap (λ (l : List ℕ). get_or l 0 0) e

place_after : (xs ys : List View) (v : View) (k n : ℕ) → map place (xs ++ v ∷ ys) ≡ range_with_len k n → v.place ≡ k + length xs
place_after [] ys v k n e = let h = first_place v ys k n e in omega arith
place_after (x ∷ xs) ys v k zero e = let h : suc (length (map place (xs ++ v ∷ ys))) ≡ 0 = ap length e in absurd (omega arith)
place_after (x ∷ xs) ys v k (suc n) e = let h = place_after xs ys v (k + 1) n (ap (λ (l : List ℕ). rest l) e) in omega arith
  where
    rest : List ℕ → List ℕ
    rest [] = []
    rest (z ∷ zs) = zs

abbrev pub view_of : SeatData → View
view_of s = s.view

-- the seat that takes over a view stands behind it
pub next_seat : (seats : List SeatData) (u : SeatData) (all : List View) (n : ℕ) → 0 < length all → map place (map view_of seats ++ u.view ∷ all) ≡ range_with_len 0 n
    → (a : View) × (l : List View) × (all ≡ a ∷ l) × (a.place ≡ u.view.place + 1)
next_seat seats u [] n any e = absurd (omega arith)
next_seat seats u (a ∷ l) n any e =
    let xs : List View = map view_of seats in
    let here = place_after xs (a ∷ l) u.view 0 n e in
    let there = place_after (xs ++ u.view ∷ []) l a 0 n (ap (map place) (append_assoc xs (u.view ∷ []) (a ∷ l)) ∙ e) in
    (a, l, refl, omega (arith, length-append xs (u.view ∷ [])))

map-twice : {B : Type 0} (f : View → B) (seats : List SeatData) → map f (map view_of seats) ≡ map (λ (s : SeatData). f s.view) seats
map-twice f [] = refl
map-twice f (s ∷ seats) = ap (λ l. f s.view ∷ l) (map-twice f seats)

-- one seat more is joined
pub one_more : (all_seats seats rest : List SeatData) (u : SeatData) (all : List View) → seats ≡ rest ++ u ∷ [] → map view_of seats ++ all ≡ map view_of all_seats
    → map view_of rest ++ u.view ∷ all ≡ map view_of all_seats
one_more all_seats seats rest u all is parted =
    sym (ap (λ (l : List View). l ++ all) (ap (map view_of) is ∙ map-append view_of rest (u ∷ [])) ∙ append_assoc (map view_of rest) (u.view ∷ []) all) ∙ parted

pub joins : (t : BoardRun) (id two n : ℕ) (all_seats rest : List SeatData) (u : SeatData) (w all : List View) → w ≡ u.view ∷ [] → 0 < length all
    → map view_of rest ++ u.view ∷ all ≡ map view_of all_seats → map (λ (s : SeatData). s.view.place) all_seats ≡ range_with_len 0 n
    → Joins (Law t) id all two w (w ++ all) []
joins t id two n all_seats rest u w all is any parted order =
    let next = next_seat rest u all n any (ap (map place) parted ∙ map-twice place all_seats ∙ order) in
    subst (λ (z : List View × List View). Joins (Law t) id z.0 two z.1 (z.1 ++ z.0) []) (λ i. (sym next.2 i, sym is i)) (gathers t id two u.view next.0 next.1 next.3)

at_place : {A : Type 0} (l : List A) (k : ℕ) (d : A) → k < length l → get_elem? l k ≡ some (get_or l k d)
at_place [] k d in' = absurd (omega arith)
at_place (x ∷ xs) zero d in' = refl
at_place (x ∷ xs) (suc k) d in' = at_place xs k d (omega arith)

-- ---- the end

-- the seat that was joined with all others has all views
pub all_told : (t : BoardRun) (s : S) (id : ℕ) (board : TableId) (seats : List SeatData) → AreAllSeats board seats → Law t s → get_elem? s.views id ≡ some (map view_of seats)
    → IsBoard t record { words = s.words; homes = s.homes; views = map view_of seats }
all_told t s id board [] are kept at = let none = are.some in absurd (omega arith)
all_told t s id board (x ∷ xs) are kept at =
    let all : List View = map view_of (x ∷ xs) in
    let first = kept.seats (place_of s.views id) x.view (at_joined s.views id x.view (map view_of xs) at) in
    let many : length (x ∷ xs) ≡ t.workers + 1 = subst (λ (u : BoardRun). length (x ∷ xs) ≡ u.workers + 1) first.board_run (are.all 0 x (omega arith)) in
    let few = kept.few_seats in
    let whole : joined s.views ≡ all = joined-whole s.views id all at (omega (arith, length-map xs view_of)) in
    subst (λ (vs : List View). IsBoard t record { words = s.words; homes = s.homes; views = vs }) whole kept

module _ (t : BoardRun) (s : State (Unit {0}) View) (kept : IsBoard t s) (promises : List Promise)
    (read : (net : ℕ) → net < nets_of t.design → promise_at promises net ≡ promise_of_word net (slice_index s.words net)) where
  -- each net's word is what its driving seat published last
  tells_newest : (net : ℕ) → net < nets_of t.design → promise_at promises net ≡ newest net (published_at s.views (driver t net))
  tells_newest net in' =
      let held = kept.nets net in' in let log : List Promise = published_at s.views (driver t net) in
      read net in' ∙ ap (promise_of_word net) held.held ∙ promise_of_word-word_of (newest net log) net (newest-net net log) held.fits

  pub ends_as : (i : ℕ) (v : View) → get_elem? s.views i ≡ some v → EndsAs promises (some_raised s.views) (number_finished s.views) s.views v
  ends_as i v at =
      let seat = kept.seats i v at in
      record {
        words = λ net in'.
            subst (λ (u : BoardRun). promise_at promises net ≡ newest net (published_at s.views (driver u net))) (sym seat.board_run)
            (tells_newest net (subst (λ (u : BoardRun). net < nets_of u.design) seat.board_run in'));
        found = λ net in'.
            subst (λ (u : BoardRun). All (λ (q : Promise). q.net ≡ net → IsKnown net (published_at s.views (driver u net)) q) v.promised.loads) (sym seat.board_run)
            ((kept.nets net (subst (λ (u : BoardRun). net < nets_of u.design) seat.board_run in')).found i v.promised.loads (at_map loads s.views i v at));
        stops = λ c. All-contains (λ (b : Bool). b ≡ true → some_raised s.views ≡ true) v.stops.loads true (kept.stop.found i v.stops (at_map (λ (u : View). u.stops) s.views i v at)) c refl;
        counts = subst (λ (k : ℕ). All (λ j. j ≤ k) v.endings.loads) kept.finished.held (kept.finished.found i v.endings (at_map (λ (u : View). u.endings) s.views i v at));
      }

  pub stop_told : (slice_index s.words (nets_of t.design) == 1) ≡ some_raised s.views
  stop_told = one_or_none (some_raised s.views) (slice_index s.words (nets_of t.design)) kept.stop.held

-- what a closed board tells: a promise for each net, the stop word and the number of finished workers
pub record Tells (promises : List Promise) (raised : Bool) (finished : ℕ) (seats : List SeatData) : Type 0 where
  pub nets : All (λ (s : SeatData). length promises ≡ nets_of s.view.board_run.design) seats
  pub words : All (λ (s : SeatData). EndsAs promises raised finished (map view_of seats) s.view) seats
  pub stop : raised ≡ any_raised (map (λ (s : SeatData). s.view.stops) seats)
  pub count : finished ≡ count_finished (map (λ (s : SeatData). s.view.endings) seats)

-- the promises that n words hold
abbrev pub promises_of : List ℕ → ℕ → List Promise
promises_of words n = map (λ net. promise_of_word net (slice_index words net)) (range_with_len 0 n)

promises_of-at : (words : List ℕ) (n net : ℕ) → net < n → promise_at (promises_of words n) net ≡ promise_of_word net (slice_index words net)
promises_of-at words n net in' = get_or-map-range_with_len (λ (k : ℕ). promise_of_word k (slice_index words k)) 0 n net net (promise net 0 0) in' (omega arith)

pub closes : (t : BoardRun) (s : S) (id n : ℕ) (board : TableId) (seats : List SeatData) (words : List ℕ) → AreAllSeats board seats → Law t s → get_elem? s.views id ≡ some (map view_of seats)
    → s.words ≡ words → length words ≡ n + 2 → Tells (promises_of words n) (slice_index words n == 1) (slice_index words (n + 1)) seats
closes t s id n board seats words are kept at same width =
    let f : State (Unit {0}) View = record { words = s.words; homes = s.homes; views = map view_of seats } in
    let told : IsBoard t f = all_told t s id board seats are kept at in
    let many = told.words in
    let len = ap length same in
    let nets : n ≡ nets_of t.design = omega arith in
    let promises : List Promise = promises_of words n in
    let read : (net : ℕ) → net < nets_of t.design → promise_at promises net ≡ promise_of_word net (slice_index s.words net) =
    λ net in'. promises_of-at words n net (omega arith) ∙ ap (λ (ws : List ℕ). promise_of_word net (slice_index ws net)) (sym same) in
    let stop : (slice_index words n == 1) ≡ some_raised f.views = (λ i. slice_index (sym same i) (nets i) == 1) ∙ stop_told t f told promises read in
    let count : slice_index words (n + 1) ≡ number_finished f.views = (λ i. slice_index (sym same i) (nets i + 1)) ∙ told.finished.held in
    record {
      nets = λ k d in'. length-map-range_with_len (λ (j : ℕ). promise_of_word j (slice_index words j)) 0 n ∙ nets
          ∙ ap (λ (u : BoardRun). nets_of u.design) (sym (told.seats k (get_or seats k d).view (at_map view_of seats k (get_or seats k d) (at_place seats k d in'))).board_run);
      words = λ k d in'. subst (λ (z : Bool × ℕ). EndsAs promises z.0 z.1 (map view_of seats) (get_or seats k d).view) (λ i. (sym stop i, sym count i))
          (ends_as t f told promises read k (get_or seats k d).view (at_map view_of seats k (get_or seats k d) (at_place seats k d in')));
      stop = stop ∙ ap any_raised (map-twice (λ (v : View). v.stops) seats);
      count = count ∙ ap count_finished (map-twice (λ (v : View). v.endings) seats);
    }

-- no more finish than there are workers
pub few_end : (t : BoardRun) (s : S) (n : ℕ) (words : List ℕ) → Law t s → s.words ≡ words → length words ≡ n + 2 → slice_index words (n + 1) ≤ 64
few_end t s n words kept same width =
    let few = finished_few (joined s.views) t.workers (λ i u at' e. (kept.seats i u at').worker e) in
    let most = kept.few_workers in
    let many = kept.words in
    let len = ap length same in
    let nets : n ≡ nets_of t.design = omega arith in
    let held : slice_index words (n + 1) ≡ number_finished (joined s.views) = (λ i. slice_index (sym same i) (nets i + 1)) ∙ kept.finished.held in
    omega arith
