-- What a seat of a board knows, and how each step of the seat changes that.
use Rattle.std.specs.Prelude.{ℕ, ◌+◌, ◌<◌, Bool, true, false, List, [], ◌∷◌, ◌++◌, map, length, ◌≡◌, All}
use Rattle.std.specs.List.{range_with_len}
use Rattle.atomic_table.specs.Seated.{TableId}
use Rattle.cmb_wave.specs.declared.level.Promise.{Promise}
use Rattle.cmb_design_model.specs.Design.{Design}
use Rattle.cmb_core_cluster.specs.Clustering.{Clustering, cluster_of}
use Rattle.cmb_links.specs.Workers.{worker_of}
use Rattle.cmb_links.specs.declared.view.BoardRun.{BoardRun}
use Rattle.cmb_links.specs.declared.view.Snapshots.{Snapshots}
use Rattle.cmb_links.specs.declared.view.View.{View}

abbrev pub board_run : Design → Clustering → ℕ → BoardRun
board_run design clustering workers = record { design = design; clustering = clustering; workers = workers }

abbrev pub board_run_of : Snapshots → BoardRun
board_run_of told = board_run told.design.value told.clustering.value told.workers

-- the place of a net's driving seat: the worker that has the net's cluster
abbrev pub driver : BoardRun → ℕ → ℕ
driver t net = worker_of t.workers (cluster_of t.clustering net)

-- a seat that has done nothing
abbrev pub new_view : BoardRun → ℕ → Bool → View
new_view t place last = record {
  board_run = t;
  place = place;
  is_last = last;
  promised = record { published = []; loads = [] };
  stops = record { raised = false; loads = [] };
  endings = record { finished = false; loads = [] };
}

-- after it published p
abbrev pub after_publish : View → Promise → View
after_publish v p = record v { promised = record { published = v.promised.published ++ p ∷ []; loads = v.promised.loads } }

-- after a load of a net's word found p
abbrev pub after_look : View → Promise → View
after_look v p = record v { promised = record { published = v.promised.published; loads = v.promised.loads ++ p ∷ [] } }

-- after it raised the stop word
abbrev pub after_raise : View → View
after_raise v = record v { stops = record { raised = true; loads = v.stops.loads } }

-- after a load of the stop word found b
abbrev pub after_check : View → Bool → View
after_check v b = record v { stops = record { raised = v.stops.raised; loads = v.stops.loads ++ b ∷ [] } }

-- after its worker finished
abbrev pub after_finish : View → View
after_finish v = record v { endings = record { finished = true; loads = v.endings.loads } }

-- after a load of the number of finished workers found k
abbrev pub after_count : View → ℕ → View
after_count v k = record v { endings = record { finished = v.endings.finished; loads = v.endings.loads ++ k ∷ [] } }

-- what contracts see of a seat: which board it is of, and what it knows
pub record SeatData : Type 0 where
  pub board : TableId
  pub view : View

abbrev pub with_view : SeatData → View → SeatData
with_view seat view = record { board = seat.board; view = view }

abbrev pub new_seat : TableId → BoardRun → Bool → ℕ → SeatData
new_seat board t last place = record { board = board; view = new_view t place last }

-- the seats of a new board: one for each worker, in order, and the last one
abbrev pub new_seats : TableId → BoardRun → List SeatData
new_seats board t = map (new_seat board t false) (range_with_len 0 t.workers) ++ new_seat board t true t.workers ∷ []

-- the seat is of this board, which was opened for these terms
abbrev pub IsSeatOf : TableId → BoardRun → SeatData → Type 0
IsSeatOf board t seat = (seat.board ≡ board) × (seat.view.board_run ≡ t)

-- the seats of a board, all of them, as they were cut
pub record AreAllSeats (board : TableId) (seats : List SeatData) : Type 0 where
  pub some : 0 < length seats
  pub same : All (λ (s : SeatData). s.board ≡ board) seats
  pub order : map (λ (s : SeatData). s.view.place) seats ≡ range_with_len 0 (length seats)
  pub all : All (λ (s : SeatData). length seats ≡ s.view.board_run.workers + 1) seats
