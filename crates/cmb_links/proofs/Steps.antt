-- Each step on a word of a board keeps the board's rule.
use Rattle.std.proofs.Common.{◌≡◌, ◌≢◌, ℕ, ◌+◌, ◌%◌, ◌^◌, ◌<◌, ◌≤◌, ◌==◌, ⊎_elim, false, List, [], ◌∷◌, ◌++◌, map, length, slice_index, slice_index_or, set, sym, refl, ap, ◌∙◌, subst, arith, get_or-set_same, get_or-set_other, length-set, mod-eq_of_lt, All}
use Rattle.std.proofs.lemmas.List.{map-set, set-get_or, length-map}
use Rattle.std.proofs.lemmas.List.Elements.{All-push}
use mathlib.Core.Logic.{dite}
use mathlib.Core.Option.{some}
use native.Mathlib.Decide.{ℕ_discrete}
use lib.ListN.{get_elem?}
use Rattle.atomic_table.specs.Table.{State, Me, keeps, stepped}
use Rattle.atomic_table.proofs.Lists.{at_set, at_map, set_here}
use Rattle.cmb_wave.specs.Calls.{word_of}
use Rattle.cmb_wave.specs.declared.level.Promise.{Promise}
use Rattle.cmb_design_model.specs.Design.{Design}
use Rattle.cmb_design_model.specs.Exact.{nets_of, IsRightIn}
use Rattle.cmb_links.specs.Promises.{promise_of_word, newest, NeverFalls}
use Rattle.cmb_links.specs.Seats.{driver, after_publish, after_look, after_raise, after_check, after_finish, after_count}
use Rattle.cmb_links.specs.Boards.{MayPublish, IsSeated, IsKnown, IsNetKept, IsStopKept, IsEndKept, IsBoard, Moment, published_at}
use Rattle.cmb_links.specs.declared.view.BoardRun.{BoardRun}
use Rattle.cmb_links.specs.declared.view.Stops.{Stops}
use Rattle.cmb_links.specs.declared.view.Endings.{Endings}
use Rattle.cmb_links.specs.declared.view.View.{View}
use Rattle.cmb_links.proofs.Lists.{at_inside, get_at, map-set_unseen}
use Rattle.cmb_links.proofs.Newest.{newest-net, promise_of_word-word_of, NeverFalls-push}
use Rattle.cmb_links.proofs.NetWords as net
use Rattle.cmb_links.proofs.StopWord as stop
use Rattle.cmb_links.proofs.EndWord as end

abbrev pub S : Type 0
S = State (Unit {0}) View

abbrev pub M : Type 0
M = Me (Unit {0}) View

abbrev pub log : View → List Promise
log v = v.promised.published

abbrev pub loads : View → List Promise
loads v = v.promised.loads

abbrev Nets : BoardRun → List ℕ → List View → Type 0
Nets t words views = (n : ℕ) → n < (nets_of t.design) → IsNetKept t.design n (slice_index words n) (published_at views (driver t n)) (map loads views)

abbrev Stopped : BoardRun → List ℕ → List View → Type 0
Stopped t words views = IsStopKept (slice_index words (nets_of t.design)) (map (λ (v : View). v.stops) views)

abbrev Ended : BoardRun → List ℕ → List View → Type 0
Ended t words views = IsEndKept (slice_index words (nets_of t.design + 1)) (map (λ (v : View). v.endings) views)

pub net_along : (d : Design) (n : ℕ) (x y : ℕ) (l m : List Promise) (r q : List (List Promise)) → y ≡ x → m ≡ l → q ≡ r → IsNetKept d n x l r → IsNetKept d n y m q
net_along d n x y l m r q e f g h = subst (λ (z : ℕ × List Promise × List (List Promise)). IsNetKept d n z.0 z.1 z.2) (λ i. (sym e i, sym f i, sym g i)) h

pub stop_along : (x y : ℕ) (l m : List Stops) → y ≡ x → m ≡ l → IsStopKept x l → IsStopKept y m
stop_along x y l m e f h = subst (λ (z : ℕ × List Stops). IsStopKept z.0 z.1) (λ i. (sym e i, sym f i)) h

pub end_along : (x y : ℕ) (l m : List Endings) → y ≡ x → m ≡ l → IsEndKept x l → IsEndKept y m
end_along x y l m e f h = subst (λ (z : ℕ × List Endings). IsEndKept z.0 z.1) (λ i. (sym e i, sym f i)) h

-- the seat that steps stays in its place
abbrev pub Stays : View → View → Type 0
Stays v w = (w.board_run ≡ v.board_run) × (w.place ≡ v.place) × (w.is_last ≡ v.is_last)

module _ (t : BoardRun) (s : S) (id : ℕ) (v w : View) (kept : IsBoard t s) (at : get_elem? s.views id ≡ some v) (c : List (ℕ × Unit {0})) where
  -- a seat that neither publishes nor finishes
  pub stays_seated : Stays v w → log w ≡ log v → w.endings.finished ≡ v.endings.finished → IsSeated t (length s.views) id w
  stays_seated stays same ended = let old = kept.seats id v at in record {
    board_run = stays.0 ∙ old.board_run;
    place = stays.1 ∙ old.place;
    last = λ l. old.last (sym stays.2 ∙ l);
    published = subst (All (MayPublish t id)) (sym same) old.published;
    rising = subst NeverFalls (sym same) old.rising;
    worker = λ e. old.worker (sym ended ∙ e);
  }

  -- a step on the word i that makes it x
  pub assembles : (i x : ℕ) → IsSeated t (length s.views) id w → Nets t (set s.words i x) (set s.views id w) → Stopped t (set s.words i x) (set s.views id w) → Ended t (set s.words i x) (set s.views id w)
      → IsBoard t (stepped s i x id c w keeps)
  assembles i x mine a b e = record {
    some_workers = kept.some_workers;
    few_workers = kept.few_workers;
    few_seats = rw (length-set s.views id w) kept.few_seats;
    words = length-set s.words i x ∙ kept.words;
    seats = λ j u at'. subst (λ (n : ℕ). IsSeated t n j u) (sym (length-set s.views id w)) (⊎_elim
        (λ (h : (j ≡ id) × (w ≡ u)). subst (λ (z : ℕ × View). IsSeated t (length s.views) z.0 z.1) (λ k. (sym h.0 k, h.1 k)) mine)
        (λ (h : (j ≢ id) × (get_elem? s.views j ≡ some u)). kept.seats j u h.1)
        (at_set s.views id j w u at'));
    nets = a;
    stop = b;
    finished = e;
  }

  -- what a step on another word leaves
  pub nets_stay : (i x : ℕ) → (nets_of t.design) ≤ i → log w ≡ log v → loads w ≡ loads v → Nets t (set s.words i x) (set s.views id w)
  nets_stay i x beyond same same' n in' = net_along t.design n (slice_index s.words n) (slice_index (set s.words i x) n) (published_at s.views (driver t n)) (published_at (set s.views id w) (driver t n))
      (map loads s.views) (map loads (set s.views id w)) (get_or-set_other s.words i n x 0 (λ e. absurd (omega arith)))
      (ap (λ (l : List (List Promise)). slice_index_or l (driver t n) []) (map-set_unseen log s.views id v w at same)) (map-set_unseen loads s.views id v w at same') (kept.nets n in')

  pub stop_stays : (i x : ℕ) → (nets_of t.design) ≢ i → w.stops ≡ v.stops → Stopped t (set s.words i x) (set s.views id w)
  stop_stays i x other same = stop_along (slice_index s.words (nets_of t.design)) (slice_index (set s.words i x) (nets_of t.design)) (map (λ (u : View). u.stops) s.views) (map (λ (u : View). u.stops) (set s.views id w))
      (get_or-set_other s.words i (nets_of t.design) x 0 other) (map-set_unseen (λ (u : View). u.stops) s.views id v w at same) kept.stop

  pub ended_stays : (i x : ℕ) → nets_of t.design + 1 ≢ i → w.endings ≡ v.endings → Ended t (set s.words i x) (set s.views id w)
  ended_stays i x other same = end_along (slice_index s.words (nets_of t.design + 1)) (slice_index (set s.words i x) (nets_of t.design + 1)) (map (λ (u : View). u.endings) s.views)
      (map (λ (u : View). u.endings) (set s.views id w)) (get_or-set_other s.words i (nets_of t.design + 1) x 0 other) (map-set_unseen (λ (u : View). u.endings) s.views id v w at same) kept.finished

  -- the seat can tell of the moment after its step
  pub tells : (i x : ℕ) → i < nets_of t.design + 2 → Stays v w → IsBoard t (stepped s i x id c w keeps) → Moment w (λ y. slice_index y.words i ≡ x)
  tells i x in' stays after = let old = kept.seats id v at in let width = kept.words in (
    stepped s i x id c w keeps,
    subst (λ (u : BoardRun). IsBoard u (stepped s i x id c w keeps)) (sym (stays.0 ∙ old.board_run)) after,
    subst (λ (j : ℕ). get_elem? (set s.views id w) j ≡ some w) (sym (stays.1 ∙ old.place)) (set_here s.views id w (at_inside s.views id v at)),
    get_or-set_same s.words i x 0 (omega arith),
  )

-- what a seat published is the log of its place
pub log_here : (s : S) (id : ℕ) (v : View) → get_elem? s.views id ≡ some v → published_at s.views id ≡ log v
log_here s id v at = get_at (map log s.views) id (log v) [] (at_map log s.views id v at)

module _ (t : BoardRun) (s : S) (id : ℕ) (v : View) (kept : IsBoard t s) (at : get_elem? s.views id ≡ some v) (c : List (ℕ × Unit {0})) where
  log_there : (p : Promise) (d : ℕ) → d ≡ id → published_at (set s.views id (after_publish v p)) d ≡ published_at s.views d ++ p ∷ []
  log_there p d is = let here : id < length (map log s.views) = rw (length-map s.views log) (at_inside s.views id v at) in
      subst (λ (k : ℕ). published_at (set s.views id (after_publish v p)) k ≡ published_at s.views k ++ p ∷ []) (sym is)
      (ap (λ (l : List (List Promise)). slice_index_or l id []) (map-set log s.views id (after_publish v p)) ∙ get_or-set_same (map log s.views) id (log v ++ p ∷ []) [] here
      ∙ ap (λ (l : List Promise). l ++ p ∷ []) (sym (log_here s id v at)))

  log_elsewhere : (w : View) (d : ℕ) → d ≢ id → published_at (set s.views id w) d ≡ published_at s.views d
  log_elsewhere w d is = ap (λ (l : List (List Promise)). slice_index_or l d []) (map-set log s.views id w) ∙ get_or-set_other (map log s.views) id d (log w) [] is

  pub publishes_kept : (p : Promise) → driver t p.net ≡ id → IsRightIn t.design p → p.upto < 2 ^ 32 → (newest p.net (log v)).upto ≤ p.upto
      → IsBoard t (stepped s p.net (word_of p) id c (after_publish v p) keeps)
  publishes_kept p drives right fits rises = let in' = right.net in let w : View = after_publish v p in let x : ℕ = word_of p in let width = kept.words in let old = kept.seats id v at in
      let same : map loads (set s.views id w) ≡ map loads s.views = map-set_unseen loads s.views id v w at refl in
      assembles t s id v w kept at c p.net x (record {
        board_run = old.board_run;
        place = old.place;
        last = old.last;
        published = All-push (MayPublish t id) (log v) p old.published (record { drives = drives; right = right });
        rising = NeverFalls-push (log v) p old.rising rises;
        worker = old.worker;
      })
      (λ n below. dite (ℕ_discrete p.net n)
      (λ is. subst (λ (k : ℕ). IsNetKept t.design k (slice_index (set s.words p.net x) k) (published_at (set s.views id w) (driver t k)) (map loads (set s.views id w))) is
      (net_along t.design p.net x (slice_index (set s.words p.net x) p.net) (published_at s.views (driver t p.net) ++ p ∷ []) (published_at (set s.views id w) (driver t p.net)) (map loads s.views)
      (map loads (set s.views id w)) (get_or-set_same s.words p.net x 0 (omega arith)) (log_there p (driver t p.net) drives) same
      (net.published t.design p.net (slice_index s.words p.net) (published_at s.views (driver t p.net)) (map loads s.views) p (kept.nets p.net in') refl right fits
      (subst (λ (l : List Promise). (newest p.net l).upto ≤ p.upto) (sym (log_here s id v at) ∙ ap (published_at s.views) (sym drives)) rises))))
      (λ other. let word : slice_index (set s.words p.net x) n ≡ slice_index s.words n = get_or-set_other s.words p.net n x 0 (λ e. other (sym e)) in
      dite (ℕ_discrete (driver t n) id)
      (λ is. net_along t.design n (slice_index s.words n) (slice_index (set s.words p.net x) n) (published_at s.views (driver t n) ++ p ∷ []) (published_at (set s.views id w) (driver t n)) (map loads s.views)
      (map loads (set s.views id w)) word (log_there p (driver t n) is) same
      (net.published_other t.design n (slice_index s.words n) (published_at s.views (driver t n)) (map loads s.views) p (kept.nets n below) other))
      (λ is. net_along t.design n (slice_index s.words n) (slice_index (set s.words p.net x) n) (published_at s.views (driver t n)) (published_at (set s.views id w) (driver t n)) (map loads s.views)
      (map loads (set s.views id w)) word (log_elsewhere w (driver t n) is) same (kept.nets n below))))
      (stop_stays t s id v w kept at c p.net x (λ e. absurd (omega arith)) refl) (ended_stays t s id v w kept at c p.net x (λ e. absurd (omega arith)) refl)

  -- a load of net k
  pub looks_kept : (k : ℕ) → k < (nets_of t.design) → IsBoard t (stepped s k (slice_index s.words k) id c (after_look v (promise_of_word k (slice_index s.words k))) keeps)
  looks_kept k in' = let x : ℕ = slice_index s.words k in let q : Promise = promise_of_word k x in let w : View = after_look v q in
      let words : set s.words k x ≡ s.words = set-get_or s.words k 0 in
      let logs : map log (set s.views id w) ≡ map log s.views = map-set_unseen log s.views id v w at refl in
      assembles t s id v w kept at c k x (stays_seated t s id v w kept at c (refl, refl, refl) refl refl)
      (λ n below. net_along t.design n (slice_index s.words n) (slice_index (set s.words k x) n) (published_at s.views (driver t n)) (published_at (set s.views id w) (driver t n))
      (set (map loads s.views) id (loads v ++ q ∷ [])) (map loads (set s.views id w)) (ap (λ (l : List ℕ). slice_index l n) words)
      (ap (λ (l : List (List Promise)). slice_index_or l (driver t n) []) logs) (map-set loads s.views id w)
      (net.loaded t.design n (slice_index s.words n) (published_at s.views (driver t n)) (map loads s.views) id (loads v) q (kept.nets n below) (at_map loads s.views id v at)
      (λ (is : k ≡ n). let held = kept.nets n below in let new : Promise = newest n (published_at s.views (driver t n)) in
      let e : q ≡ new = (λ i. promise_of_word (is i) (slice_index s.words (is i))) ∙ ap (promise_of_word n) held.held ∙ promise_of_word-word_of new n (newest-net n (published_at s.views (driver t n))) held.fits in
      subst (IsKnown n (published_at s.views (driver t n))) (sym e) (net.knows_newest n (published_at s.views (driver t n))))))
      (stop_stays t s id v w kept at c k x (λ e. absurd (omega arith)) refl) (ended_stays t s id v w kept at c k x (λ e. absurd (omega arith)) refl)

  pub raises_kept : IsBoard t (stepped s (nets_of t.design) 1 id c (after_raise v) keeps)
  raises_kept = let w : View = after_raise v in let i : ℕ = (nets_of t.design) in let width = kept.words in
      assembles t s id v w kept at c i 1 (stays_seated t s id v w kept at c (refl, refl, refl) refl refl) (nets_stay t s id v w kept at c i 1 (omega arith) refl refl)
      (stop_along 1 (slice_index (set s.words i 1) i) (set (map (λ (u : View). u.stops) s.views) id w.stops) (map (λ (u : View). u.stops) (set s.views id w)) (get_or-set_same s.words i 1 0 (omega arith))
      (map-set (λ (u : View). u.stops) s.views id w) (stop.raised (slice_index s.words i) (map (λ (u : View). u.stops) s.views) id v.stops kept.stop (at_map (λ (u : View). u.stops) s.views id v at)))
      (ended_stays t s id v w kept at c i 1 (λ e. absurd (omega arith)) refl)

  pub checks_kept : IsBoard t (stepped s (nets_of t.design) (slice_index s.words (nets_of t.design)) id c (after_check v (slice_index s.words (nets_of t.design) == 1)) keeps)
  checks_kept = let i : ℕ = (nets_of t.design) in let x : ℕ = slice_index s.words i in let w : View = after_check v (x == 1) in
      assembles t s id v w kept at c i x (stays_seated t s id v w kept at c (refl, refl, refl) refl refl) (nets_stay t s id v w kept at c i x (omega arith) refl refl)
      (stop_along x (slice_index (set s.words i x) i) (set (map (λ (u : View). u.stops) s.views) id w.stops) (map (λ (u : View). u.stops) (set s.views id w))
      (ap (λ (l : List ℕ). slice_index l i) (set-get_or s.words i 0)) (map-set (λ (u : View). u.stops) s.views id w)
      (stop.checked x (map (λ (u : View). u.stops) s.views) id v.stops kept.stop (at_map (λ (u : View). u.stops) s.views id v at)))
      (ended_stays t s id v w kept at c i x (λ e. absurd (omega arith)) refl)

  -- no more have finished than there are workers
  pub few_ended : slice_index s.words (nets_of t.design + 1) ≤ t.workers
  few_ended = let held = kept.finished.held in let few = end.finished_few s.views t.workers (λ i u at' e. (kept.seats i u at').worker e) in omega arith

  pub finishes_kept : id < t.workers → v.endings.finished ≡ false → IsBoard t (stepped s (nets_of t.design + 1) ((slice_index s.words (nets_of t.design + 1) + 1) % 2 ^ 64) id c (after_finish v) keeps)
  finishes_kept works not_yet = let old = kept.seats id v at in let few_workers = kept.few_workers in let i : ℕ = nets_of t.design + 1 in let x : ℕ = slice_index s.words i in let y : ℕ = (x + 1) % 2 ^ 64 in let w : View = after_finish v in let width = kept.words in
      let few = few_ended in let wraps : y ≡ x + 1 = mod-eq_of_lt (omega arith) in
      assembles t s id v w kept at c i y (record { board_run = old.board_run; place = old.place; last = old.last; published = old.published; rising = old.rising; worker = λ _. works }) (nets_stay t s id v w kept at c i y (omega arith) refl refl) (stop_stays t s id v w kept at c i y (λ e. absurd (omega arith)) refl)
      (end_along (x + 1) (slice_index (set s.words i y) i) (set (map (λ (u : View). u.endings) s.views) id w.endings) (map (λ (u : View). u.endings) (set s.views id w))
      (get_or-set_same s.words i y 0 (omega arith) ∙ wraps) (map-set (λ (u : View). u.endings) s.views id w)
      (end.finished x (map (λ (u : View). u.endings) s.views) id v.endings kept.finished (at_map (λ (u : View). u.endings) s.views id v at) not_yet))

  pub counts_kept : IsBoard t (stepped s (nets_of t.design + 1) (slice_index s.words (nets_of t.design + 1)) id c (after_count v (slice_index s.words (nets_of t.design + 1))) keeps)
  counts_kept = let i : ℕ = nets_of t.design + 1 in let x : ℕ = slice_index s.words i in let w : View = after_count v x in
      assembles t s id v w kept at c i x (stays_seated t s id v w kept at c (refl, refl, refl) refl refl) (nets_stay t s id v w kept at c i x (omega arith) refl refl) (stop_stays t s id v w kept at c i x (λ e. absurd (omega arith)) refl)
      (end_along x (slice_index (set s.words i x) i) (set (map (λ (u : View). u.endings) s.views) id w.endings) (map (λ (u : View). u.endings) (set s.views id w))
      (ap (λ (l : List ℕ). slice_index l i) (set-get_or s.words i 0)) (map-set (λ (u : View). u.endings) s.views id w)
      (end.counted x (map (λ (u : View). u.endings) s.views) id v.endings kept.finished (at_map (λ (u : View). u.endings) s.views id v at)))
