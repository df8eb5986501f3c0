-- A new board keeps its rule, and so does a board with one more seat.
use Rattle.std.proofs.Common.{◌≡◌, ◌≢◌, ℕ, zero, suc, ◌+◌, ◌<◌, ◌≤◌, ⊎_elim, Bool, true, false, true≢false, List, [], ◌∷◌, ◌++◌, map, length, slice_index, slice_index_or, get_or, drop, get_or-drop, set, replicate, All, sym, refl, ap, ◌∙◌, subst, arith, length-set, length-append}
use Rattle.std.proofs.lemmas.List.{get_or_append_left, map-append, get_or-replicate, length-replicate}
use Rattle.std.proofs.lemmas.List.Elements.{All-nil, All-push, All-map}
use Rattle.std.proofs.lemmas.List.FromFn.{length-map-range_with_len, get_or-map-range_with_len}
use mathlib.Core.Option.{some, some-ne-none, some-injective}
use lib.ListN.{get_elem?}
use Rattle.std.specs.List.{range_with_len}
use Rattle.atomic_table.specs.Seated.{TableId}
use Rattle.atomic_table.specs.Table.{opening, Splits, Joins}
use Rattle.atomic_table.proofs.Lists.{at_set}
use Rattle.cmb_wave.specs.Waveform.{count_below}
use Rattle.cmb_wave.specs.declared.level.Promise.{Promise}
use Rattle.cmb_wave.proofs.Waveforms.{changes_between-same}
use Rattle.cmb_design_model.specs.Design.{Design}
use Rattle.cmb_design_model.specs.Exact.{nets_of}
use Rattle.cmb_design_model.specs.Value.{value, count}
use Rattle.cmb_links.specs.Seats.{SeatData, driver, new_view, new_seat, new_seats, IsSeatOf}
use Rattle.cmb_links.specs.Inner.BoardSteps.{cut_left, cut_right, only, joined}
use Rattle.cmb_links.specs.Boards.{MayPublish, IsSeated, IsKnown, IsBoard, published_at}
use Rattle.cmb_links.specs.Inner.BoardSteps.{seats_of}
use Rattle.cmb_links.specs.declared.view.BoardRun.{BoardRun}
use Rattle.cmb_links.specs.declared.view.View.{View}
use Rattle.cmb_links.proofs.Allowed.{Law}
use Rattle.cmb_links.proofs.Joined.{place_of, at_joined, joined-set, joined-push, joined-moved}
use Rattle.cmb_links.proofs.Lists.{at_push, map-set_unseen, get_or-push_default}
use Rattle.cmb_links.proofs.Steps.{log, loads, net_along, stop_along, end_along}
use Rattle.cmb_links.proofs.NetWords as net
use Rattle.cmb_links.proofs.StopWord as stop
use Rattle.cmb_links.proofs.EndWord as end

count-zero : (design : Design) (n : ℕ) → count design n 0 ≡ 0
unfolding count_below
count-zero design n = ap length (changes_between-same (value design n) 0)

no_log : (v : View) (d : ℕ) → log v ≡ [] → published_at (v ∷ []) d ≡ []
no_log v zero e = e
no_log v (suc d) e = refl

-- a seat that has done nothing
new_seated : (t : BoardRun) (place seats : ℕ) (last : Bool) → (last ≡ true → seats ≡ place + 1) → IsSeated t seats place (new_view t place last)
new_seated t place seats last is = record {
  board_run = refl;
  place = refl;
  last = is;
  published = All-nil (MayPublish t place);
  rising = tt;
  worker = λ e. absurd (true≢false (sym e));
}

alone : (t : BoardRun) (i : ℕ) (u : View) → get_elem? (new_view t 0 true ∷ []) i ≡ some u → IsSeated t 1 i u
alone t zero u at = subst (IsSeated t 1 0) (some-injective (new_view t 0 true) u at) (new_seated t 0 1 true (λ _. refl))
alone t (suc i) u at = absurd (some-ne-none u (sym at))

nothing : (n i : ℕ) (l : List Promise) → get_elem? ([] ∷ []) i ≡ some l → All (λ q. q.net ≡ n → IsKnown n [] q) l
nothing n zero l at = subst (All (λ q. q.net ≡ n → IsKnown n [] q)) (some-injective [] l at) (All-nil (λ q. q.net ≡ n → IsKnown n [] q))
nothing n (suc i) l at = absurd (some-ne-none l (sym at))

pub opens : (t : BoardRun) → 1 ≤ t.workers → t.workers ≤ 64 → Law t (opening (replicate (nets_of t.design + 2) 0) [] (new_view t 0 true ∷ []))
opens t some_workers few_workers = let v : View = new_view t 0 true in record {
  some_workers = some_workers;
  few_workers = few_workers;
  few_seats = omega arith;
  words = length-replicate (nets_of t.design + 2) 0;
  seats = alone t;
  nets = λ n in'. net_along t.design n 0 (slice_index (replicate (nets_of t.design + 2) 0) n) [] (published_at (v ∷ []) (driver t n)) ([] ∷ []) ([] ∷ [])
      (get_or-replicate (nets_of t.design + 2) n 0 0 (omega arith)) (no_log v (driver t n) refl) refl (record {
        held = refl;
        fits = omega arith;
        right = record { net = in'; within = omega arith; count = sym (count-zero t.design n) };
        found = nothing n;
      });
  stop = stop_along 0 (slice_index (replicate (nets_of t.design + 2) 0) (nets_of t.design)) (v.stops ∷ []) (v.stops ∷ []) (get_or-replicate (nets_of t.design + 2) (nets_of t.design) 0 0 (omega arith)) refl
      (stop.seated 0 [] (record { held = refl; found = λ i x at. absurd (some-ne-none x (sym at)) }));
  finished = end_along 0 (slice_index (replicate (nets_of t.design + 2) 0) (nets_of t.design + 1)) (v.endings ∷ []) (v.endings ∷ []) (get_or-replicate (nets_of t.design + 2) (nets_of t.design + 1) 0 0 (omega arith)) refl
      (end.seated 0 [] (record { held = refl; found = λ i x at. absurd (some-ne-none x (sym at)) }));
}

-- what f sees after a seat was cut
cut-map : {B : Type 0} (f : View → B) (views : List View) (id : ℕ) (v : View) → get_elem? views id ≡ some v → f (cut_left v) ≡ f v
    → map f (set views id (cut_left v) ++ cut_right v ∷ []) ≡ map f views ++ f (cut_right v) ∷ []
cut-map f views id v at same = map-append f (set views id (cut_left v)) (cut_right v ∷ []) ∙ ap (λ l. l ++ f (cut_right v) ∷ []) (map-set_unseen f views id v (cut_left v) at same)

-- a seat that is the last cuts the next one
splits : (t : BoardRun) (id : ℕ) (v : View) → v.is_last ≡ true → v.place < v.board_run.workers → Splits (IsBoard t) id v (cut_left v) (cut_right v)
splits t id v is_last room s kept at =
    let mine = kept.seats id v at in
    let left : View = cut_left v in
    let right : View = cut_right v in
    let after : List View = set s.views id left ++ right ∷ [] in
    let there : length s.views ≡ id + 1 = mine.last is_last in
    let place = mine.place in
    let room' : id < t.workers = subst (λ (u : BoardRun). id < u.workers) mine.board_run (omega arith) in
    let longer : length after ≡ length s.views + 1 = omega (arith, length-append (set s.views id left) (right ∷ []), length-set s.views id left) in
    record {
      some_workers = kept.some_workers;
      few_workers = kept.few_workers;
      few_seats = omega arith;
      words = kept.words;
      seats = λ j u at'. ⊎_elim
          (λ (h : get_elem? (set s.views id left) j ≡ some u). ⊎_elim
          (λ (e : (j ≡ id) × (left ≡ u)). subst (λ (z : ℕ × View). IsSeated t (length after) z.0 z.1) (λ k. (sym e.0 k, e.1 k))
          (record {
            board_run = mine.board_run;
            place = mine.place;
            last = λ l. absurd (true≢false (sym l));
            published = mine.published;
            rising = mine.rising;
            worker = mine.worker;
          }))
          (λ (e : (j ≢ id) × (get_elem? s.views j ≡ some u)). let old = kept.seats j u e.1 in record {
            board_run = old.board_run;
            place = old.place;
            last = λ l. let h' = old.last l in absurd (e.0 (omega arith));
            published = old.published;
            rising = old.rising;
            worker = old.worker;
          })
          (at_set s.views id j left u h))
          (λ (h : (j ≡ length (set s.views id left)) × (right ≡ u)). let h' = h.0 in let w = length-set s.views id left in subst (IsSeated t (length after) j) h.1 (record {
            board_run = mine.board_run;
            place = omega arith;
            last = λ _. omega arith;
            published = All-nil (MayPublish t j);
            rising = tt;
            worker = λ e'. absurd (true≢false (sym e'));
          }))
          (at_push (set s.views id left) right u j at');
      nets = λ n in'. net_along t.design n (slice_index s.words n) (slice_index s.words n) (published_at s.views (driver t n)) (published_at after (driver t n)) (map loads s.views ++ [] ∷ []) (map loads after) refl
          (ap (λ (l : List (List Promise)). slice_index_or l (driver t n) []) (cut-map log s.views id v at refl) ∙ get_or-push_default (map log s.views) (driver t n) [])
          (cut-map loads s.views id v at refl) (net.seated t.design n (slice_index s.words n) (published_at s.views (driver t n)) (map loads s.views) (kept.nets n in'));
      stop = stop_along (slice_index s.words (nets_of t.design)) (slice_index s.words (nets_of t.design)) (map (λ (u : View). u.stops) s.views ++ right.stops ∷ []) (map (λ (u : View). u.stops) after) refl
          (cut-map (λ (u : View). u.stops) s.views id v at refl) (stop.seated (slice_index s.words (nets_of t.design)) (map (λ (u : View). u.stops) s.views) kept.stop);
      finished = end_along (slice_index s.words (nets_of t.design + 1)) (slice_index s.words (nets_of t.design + 1)) (map (λ (u : View). u.endings) s.views ++ right.endings ∷ []) (map (λ (u : View). u.endings) after) refl
          (cut-map (λ (u : View). u.endings) s.views id v at refl) (end.seated (slice_index s.words (nets_of t.design + 1)) (map (λ (u : View). u.endings) s.views) kept.finished);
    }

pub cuts : (t : BoardRun) (id : ℕ) (l : List View) → l ≡ only l ∷ [] → (only l).is_last ≡ true → (only l).place < (only l).board_run.workers
    → Splits (Law t) id l (cut_left (only l) ∷ []) (cut_right (only l) ∷ [])
cuts t id l one is_last room s kept at =
    let v : View = only l in let left : View = cut_left v in let right : View = cut_right v in
    let at' = at ∙ ap some one in
    let i = place_of s.views id in
    let same : joined (set s.views id (left ∷ []) ++ (right ∷ []) ∷ []) ≡ set (joined s.views) i left ++ right ∷ [] =
    joined-push (set s.views id (left ∷ [])) (right ∷ []) ∙ ap (λ (m : List View). m ++ right ∷ []) (joined-set s.views id v left at') in
    subst (λ (vs : List View). IsBoard t record { words = s.words; homes = s.homes; views = vs }) (sym same)
    (splits t i v is_last room (seats_of s) kept (at_joined s.views id v [] at'))

-- a seat takes over the view of the one that was cut before it
pub gathers : (t : BoardRun) (id two : ℕ) (u a : View) (l : List View) → a.place ≡ u.place + 1 → Joins (Law t) id (a ∷ l) two (u ∷ []) (u ∷ a ∷ l) []
gathers t id two u a l next s kept at apart at' =
    let was : get_elem? s.views two ≡ some (u ∷ []) = ⊎_elim (λ h. absurd (apart h.0)) (λ h. h.1) (at_set s.views id two (u ∷ a ∷ l) (u ∷ []) at') in
    let mine = (kept.seats (place_of s.views id) a (at_joined s.views id a l at)).place in
    let theirs = (kept.seats (place_of s.views two) u (at_joined s.views two u [] was)).place in
    let beside : place_of s.views id ≡ place_of s.views two + 1 = omega arith in
    subst (λ (vs : List View). IsBoard t record { words = s.words; homes = s.homes; views = vs }) (sym (joined-moved s.views id two u a l at was beside)) kept

pub all_seats : (b : TableId) (t : BoardRun) → All (IsSeatOf b t) (new_seats b t)
all_seats b t = All-push (IsSeatOf b t) (map (new_seat b t false) (range_with_len 0 t.workers)) (new_seat b t true t.workers)
    (All-map (IsSeatOf b t) (new_seat b t false) (range_with_len 0 t.workers) (λ k d in'. (refl, refl))) (refl, refl)

-- the seat of a worker stands at the worker's number
pub worker_seat : (b : TableId) (t : BoardRun) (k : ℕ) (d : SeatData) → k < t.workers → get_or (new_seats b t) k d ≡ new_seat b t false k
worker_seat b t k d in' = let front : List SeatData = map (new_seat b t false) (range_with_len 0 t.workers) in
    get_or_append_left front (new_seat b t true t.workers ∷ []) d k (omega (arith, length-map-range_with_len (new_seat b t false) 0 t.workers))
    ∙ get_or-map-range_with_len (new_seat b t false) 0 t.workers k k d in' (omega arith)

-- the first of the seats from the k-th on
pub next_seat : (b : TableId) (t : BoardRun) (k : ℕ) (d : SeatData) (xs : List SeatData) → xs ≡ drop k (new_seats b t) → k < t.workers → get_or xs 0 d ≡ new_seat b t false k
next_seat b t k d xs e in' = let here : k + 0 ≡ k = omega arith in
    ap (λ (l : List SeatData). get_or l 0 d) e ∙ get_or-drop k (new_seats b t) 0 d ∙ ap (λ (j : ℕ). get_or (new_seats b t) j d) here ∙ worker_seat b t k d in'
