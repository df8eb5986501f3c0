-- What holds of a board between any two of its atomic steps.
use Rattle.std.specs.Prelude.{◌≡◌, ℕ, ◌+◌, ◌^◌, ◌<◌, ◌≤◌, Bool, true, List, [], ◌⊎◌, map, length, slice_index, slice_index_or, if◌then◌else◌, All}
use Rattle.std.specs.List.{Contains, count_by, list_any}
use mathlib.Core.Option.{some}
use lib.ListN.{get_elem?}
use Rattle.atomic_table.specs.Table.{State}
use Rattle.cmb_wave.specs.Calls.{word_of}
use Rattle.cmb_wave.specs.declared.level.Promise.{Promise}
use Rattle.cmb_design_model.specs.Design.{Design}
use Rattle.cmb_design_model.specs.Exact.{nets_of, IsRightIn}
use Rattle.cmb_links.specs.Promises.{promise, newest, NeverFalls}
use Rattle.cmb_links.specs.Seats.{driver}
use Rattle.cmb_links.specs.declared.view.BoardRun.{BoardRun}
use Rattle.cmb_links.specs.declared.view.Stops.{Stops}
use Rattle.cmb_links.specs.declared.view.Endings.{Endings}
use Rattle.cmb_links.specs.declared.view.View.{View}

-- ---- a net's word

-- a load that found q: it isn't above the newest published promise, and is (0, 0) or was published
pub record IsKnown (net : ℕ) (published : List Promise) (q : Promise) : Type 0 where
  pub below : q.upto ≤ (newest net published).upto
  pub made : (q ≡ promise net 0 0) ⊎ Contains published q

-- the word is the newest promise that the net's driving seat published. It is right, and no load found more
pub record IsNetKept (design : Design) (net word : ℕ) (published : List Promise) (records : List (List Promise)) : Type 0 where
  pub held : word ≡ word_of (newest net published)
  pub fits : (newest net published).upto < 2 ^ 32
  pub right : IsRightIn design (newest net published)
  pub found : (i : ℕ) (loads : List Promise) → get_elem? records i ≡ some loads → All (λ q. q.net ≡ net → IsKnown net published q) loads

-- what the seat at a place published
abbrev pub published_at : List View → ℕ → List Promise
published_at views place = slice_index_or (map (λ (v : View). v.promised.published) views) place []

-- ---- the stop word

abbrev pub any_raised : List Stops → Bool
any_raised seats = list_any (λ (x : Stops). x.raised) seats

-- the word is 1 where some seat raised it, and 0 where none did. Where a load found 1, some seat did
pub record IsStopKept (word : ℕ) (seats : List Stops) : Type 0 where
  pub held : word ≡ (if any_raised seats then 1 else 0)
  pub found : (i : ℕ) (x : Stops) → get_elem? seats i ≡ some x → All (λ b. b ≡ true → any_raised seats ≡ true) x.loads

abbrev pub some_raised : List View → Bool
some_raised views = any_raised (map (λ (v : View). v.stops) views)

-- ---- the word of finished workers

abbrev pub count_finished : List Endings → ℕ
count_finished seats = count_by (λ (x : Endings). x.finished) seats

-- the word is the number of seats that finished, and no load found more
pub record IsEndKept (word : ℕ) (seats : List Endings) : Type 0 where
  pub held : word ≡ count_finished seats
  pub found : (i : ℕ) (x : Endings) → get_elem? seats i ≡ some x → All (λ k. k ≤ word) x.loads

abbrev pub number_finished : List View → ℕ
number_finished views = count_finished (map (λ (v : View). v.endings) views)

-- ---- the board

-- a seat publishes right promises of nets that it drives
pub record MayPublish (t : BoardRun) (place : ℕ) (p : Promise) : Type 0 where
  pub drives : driver t p.net ≡ place
  pub right : IsRightIn t.design p

-- the view of seat i, where there are so many seats
pub record IsSeated (t : BoardRun) (seats i : ℕ) (v : View) : Type 0 where
  pub board_run : v.board_run ≡ t
  pub place : v.place ≡ i
  pub last : v.is_last ≡ true → seats ≡ i + 1
  pub published : All (MayPublish t i) v.promised.published
  pub rising : NeverFalls v.promised.published
  pub worker : v.endings.finished ≡ true → i < t.workers

-- the words are one for each net, the stop word and the word of finished workers; seat i has the view i
pub record IsBoard (t : BoardRun) (s : State (Unit {0}) View) : Type 0 where
  pub some_workers : 1 ≤ t.workers
  pub few_workers : t.workers ≤ 64
  pub few_seats : length s.views ≤ t.workers + 1
  pub words : length s.words ≡ nets_of t.design + 2
  pub seats : (i : ℕ) (v : View) → get_elem? s.views i ≡ some v → IsSeated t (length s.views) i v
  pub nets : (net : ℕ) → net < nets_of t.design
      → IsNetKept t.design net (slice_index s.words net) (published_at s.views (driver t net)) (map (λ (v : View). v.promised.loads) s.views)
  pub stop : IsStopKept (slice_index s.words (nets_of t.design)) (map (λ (v : View). v.stops) s.views)
  pub finished : IsEndKept (slice_index s.words (nets_of t.design + 1)) (map (λ (v : View). v.endings) s.views)

-- ---- between two steps

-- some state of words and views that the board's rule allows has this view at the seat's place, and P holds of it
abbrev pub Moment : View → (State (Unit {0}) View → Type 0) → Type 0
Moment v P = (s : State (Unit {0}) View) × IsBoard v.board_run s × (get_elem? s.views v.place ≡ some v) × P s

-- ---- the end

-- the promise of a net in a list of one for each net
abbrev pub promise_at : List Promise → ℕ → Promise
promise_at promises net = slice_index_or promises net (promise net 0 0)

-- What a board's words held at the end, and what a seat knows, where all seats know these views: each net's promise is the newest of its
-- driving seat, and what a load of the seat found of a net is (0, 0) or was published by that seat, and isn't above its newest
pub record EndsAs (promises : List Promise) (raised : Bool) (finished : ℕ) (views : List View) (v : View) : Type 0 where
  pub words : (net : ℕ) → net < nets_of v.board_run.design → promise_at promises net ≡ newest net (published_at views (driver v.board_run net))
  pub found : (net : ℕ) → net < nets_of v.board_run.design → All (λ q. q.net ≡ net → IsKnown net (published_at views (driver v.board_run net)) q) v.promised.loads
  pub stops : Contains v.stops.loads true → raised ≡ true
  pub counts : All (λ k. k ≤ finished) v.endings.loads
