-- What a seat learns at the moment of a load.
use Rattle.std.proofs.Common.{◌≡◌, ℕ, ◌+◌, ◌^◌, ◌<◌, ◌≤◌, ◌==◌, Bool, true, false, List, [], ◌∷◌, ◌++◌, if◌then◌else◌, map, slice_index, sym, refl, ap, ◌∙◌, subst, arith, All, Contains, length-append, div-add-mod'}
use Rattle.std.proofs.lemmas.List.Elements.{All-weaker, All-contains}
use Rattle.std.proofs.lemmas.List.{get_or_append_left}
use Rattle.atomic_table.specs.Seated.{TableId}
use Rattle.atomic_table.proofs.Lists.{at_map}
use Rattle.cmb_wave.specs.Calls.{word_of}
use Rattle.cmb_wave.specs.declared.level.Promise.{Promise}
use Rattle.cmb_design_model.specs.Exact.{nets_of, IsRightIn}
use Rattle.cmb_links.specs.Promises.{promise_of_word, newest}
use Rattle.cmb_links.specs.Seats.{SeatData, driver, after_look, after_check, after_count}
use Rattle.cmb_links.specs.Inner.BoardSteps.{only}
use Rattle.cmb_links.specs.Boards.{IsKnown, Moment, published_at, some_raised, number_finished}
use Rattle.cmb_links.specs.declared.view.Stops.{Stops}
use Rattle.cmb_links.specs.declared.view.View.{View}
use Rattle.cmb_links.proofs.Allowed.{IsOne, M}
use Rattle.cmb_links.proofs.Lists.{list_any-at}
use Rattle.cmb_links.proofs.Newest.{newest-net, promise_of_word-word_of}
use Rattle.cmb_links.proofs.NetWords.{knows_newest}
use Rattle.cmb_links.proofs.EndWord.{counts_itself}
use Rattle.cmb_links.proofs.Steps.{log_here, loads, few_ended}

-- a seat of a board, as it is within and as contracts see it: its table is the board's, and the board's nets are those of its design
pub record IsAtBoard (mine own : TableId) (me : M) (seat : SeatData) (nets : ℕ) : Type 0 where
  pub board : mine ≡ own
  pub nets_is : nets ≡ nets_of (only me.0).board_run.design
  pub room : nets + 1 < own.words
  pub one : IsOne me
  pub view : only me.0 ≡ seat.view

pub at_board : (mine own board : TableId) (me : M) (seat : SeatData) (nets : ℕ) → record { board = mine; view = only me.0 } ≡ seat → seat.board ≡ board → own ≡ board
    → (me ≡ (only me.0 ∷ [], [])) × (mine.words ≡ nets_of (only me.0).board_run.design + 2) → own.words ≡ nets + 2 → IsAtBoard mine own me seat nets
at_board mine own board me seat nets is of same kept wide =
    let one : mine ≡ own = ap (λ (s : SeatData). s.board) is ∙ of ∙ sym same in
    let words = ap (λ (t : TableId). t.words) one in
    record {
      board = one;
      nets_is = omega (arith, words, kept.1, wide);
      room = omega (arith, wide);
      one = ap (λ (m : M). m.0) kept.0;
      view = ap (λ (s : SeatData). s.view) is;
    }

-- what holds of the views within, before and after a load, holds of those that contracts see
pub as_seen : (P : View → View → Type 0) (v u w : View) (me rest : M) → v ≡ u → me ≡ (w ∷ [], rest.1) → P v w → P u (only me.0)
as_seen P v u w me rest seen told h = subst (λ (z : View × View). P z.0 z.1) (λ i. (seen i, only (sym told i).0)) h

All-front : {X : Type 0} (P : X → Type 0) (xs ys : List X) → All P (xs ++ ys) → All P xs
All-front P xs ys a k d in' = subst P (get_or_append_left xs ys d k in') (a k d (omega (arith, length-append xs ys)))

-- what the load of a net's word tells, by the view before and after it
pub record Looked (v w : View) (n : ℕ) (q : Promise) : Type 0 where
  pub now : w ≡ after_look v q
  pub right : IsRightIn v.board_run.design q
  pub rising : All (λ (p : Promise). p.net ≡ n → p.upto ≤ q.upto) v.promised.loads
  pub own : driver v.board_run n ≡ v.place → q ≡ newest n v.promised.published
  pub moment : Moment w (λ s. (slice_index s.words n ≡ word_of q) × IsKnown n (published_at s.views (driver v.board_run n)) q)

pub looks : (v : View) (n found : ℕ) → n < (nets_of v.board_run.design) → Moment (after_look v (promise_of_word n found)) (λ s. slice_index s.words n ≡ found) → Looked v (after_look v (promise_of_word n found)) n (promise_of_word n found)
looks v n found in' m =
    let s = m.0 in let q : Promise = promise_of_word n found in let w : View = after_look v q in
    let log : List Promise = published_at s.views (driver v.board_run n) in
    let held = m.1.nets n in' in
    let is : q ≡ newest n log = ap (promise_of_word n) (sym m.3 ∙ held.held) ∙ promise_of_word-word_of (newest n log) n (newest-net n log) held.fits in
    let known = All-front (λ (p : Promise). p.net ≡ n → IsKnown n log p) v.promised.loads (q ∷ []) (held.found v.place w.promised.loads (at_map loads s.views v.place w m.2)) in
    record {
      now = refl;
      right = subst (IsRightIn v.board_run.design) (sym is) held.right;
      rising = All-weaker (λ (p : Promise). p.net ≡ n → IsKnown n log p) (λ (p : Promise). p.net ≡ n → p.upto ≤ q.upto)
          (λ p h same. subst (λ (z : Promise). p.upto ≤ z.upto) (sym is) (h same).below) v.promised.loads known;
      own = λ here. is ∙ ap (λ (l : List Promise). newest n l) (ap (published_at s.views) here ∙ log_here s v.place w m.2);
      moment = (s, m.1, m.2, (m.3 ∙ sym (ap (λ (k : ℕ). k) (div-add-mod' found (2 ^ 32))), subst (IsKnown n log) (sym is) (knows_newest n log)));
    }

-- what the load of the stop word tells
pub record Checked (v w : View) (b : Bool) : Type 0 where
  pub now : w ≡ after_check v b
  pub own : v.stops.raised ≡ true → b ≡ true
  pub stays : Contains v.stops.loads true → b ≡ true
  pub moment : Moment w (λ s. b ≡ some_raised s.views)

pub one_or_none : (c : Bool) (x : ℕ) → x ≡ (if c then 1 else 0) → (x == 1) ≡ c
one_or_none true x e = ap (λ (k : ℕ). k == 1) e
one_or_none false x e = ap (λ (k : ℕ). k == 1) e

pub looks_at_stop : (v : View) (k found : ℕ) → k ≡ (nets_of v.board_run.design) → Moment (after_check v (found == 1)) (λ s. slice_index s.words k ≡ found) → Checked v (after_check v (found == 1)) (found == 1)
looks_at_stop v k found here m =
    let s = m.0 in let b : Bool = found == 1 in let w : View = after_check v b in
    let held = m.1.stop in
    let is : b ≡ some_raised s.views = one_or_none (some_raised s.views) found (sym m.3 ∙ ap (slice_index s.words) here ∙ held.held) in
    let at = at_map (λ (u : View). u.stops) s.views v.place w m.2 in
    let known = All-front (λ (c : Bool). c ≡ true → some_raised s.views ≡ true) v.stops.loads (b ∷ []) (held.found v.place w.stops at) in
    record {
      now = refl;
      own = λ raised. is ∙ list_any-at (λ (x : Stops). x.raised) (map (λ (u : View). u.stops) s.views) v.place w.stops at raised;
      stays = λ c. is ∙ All-contains (λ (x : Bool). x ≡ true → some_raised s.views ≡ true) v.stops.loads true known c refl;
      moment = (s, m.1, m.2, is);
    }

-- what the load of the number of finished workers tells
pub record Counted (v w : View) (k : ℕ) : Type 0 where
  pub now : w ≡ after_count v k
  pub rising : All (λ (j : ℕ). j ≤ k) v.endings.loads
  pub own : v.endings.finished ≡ true → 1 ≤ k
  pub few : k ≤ v.board_run.workers
  pub moment : Moment w (λ s. k ≡ number_finished s.views)

pub looks_at_end : (v : View) (i k : ℕ) → i ≡ nets_of v.board_run.design + 1 → Moment (after_count v k) (λ s. slice_index s.words i ≡ k) → Counted v (after_count v k) k
looks_at_end v i k here m =
    let s = m.0 in let w : View = after_count v k in
    let held = m.1.finished in
    let x : ℕ = slice_index s.words (nets_of v.board_run.design + 1) in
    let same : x ≡ k = ap (slice_index s.words) (sym here) ∙ m.3 in
    let at = at_map (λ (u : View). u.endings) s.views v.place w m.2 in
    record {
      now = refl;
      rising = subst (λ (y : ℕ). All (λ (j : ℕ). j ≤ y) v.endings.loads) same (All-front (λ (j : ℕ). j ≤ x) v.endings.loads (k ∷ []) (held.found v.place w.endings at));
      own = λ finished. subst (λ (y : ℕ). 1 ≤ y) (sym held.held ∙ same) (counts_itself (map (λ (u : View). u.endings) s.views) v.place w.endings at finished);
      few = subst (λ (y : ℕ). y ≤ v.board_run.workers) same (few_ended v.board_run s v.place w m.1 m.2 []);
      moment = (s, m.1, m.2, sym same ∙ held.held);
    }
