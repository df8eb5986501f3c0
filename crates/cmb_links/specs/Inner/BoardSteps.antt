-- What the table keeps for a seat, at first and after each of its steps on a word of the board.
use Rattle.std.specs.Prelude.{◌≡◌, ℕ, ◌+◌, ◌%◌, ◌^◌, List, [], ◌∷◌, slice_index, ◌==◌, true, false, ◌++◌}
use Rattle.atomic_table.specs.Table.{Me, Step, State}
use Rattle.cmb_links.specs.Promises.{promise_of_word}
use Rattle.cmb_links.specs.Seats.{after_publish, after_look, after_raise, after_check, after_finish, after_count, board_run, new_view}
use Rattle.cmb_links.specs.declared.view.View.{View}
use Rattle.cmb_links.specs.Boards.{Moment}
use Rattle.cmb_links.specs.Inner.Ends.{no_design}

-- What the table keeps for a seat is a list: its one view. The seat that closes the board has the views of all, and a seat that was
-- joined to it has none
abbrev pub no_view : View
no_view = new_view (board_run no_design record { clusters = 0; assign = [] } 0) 0 false

abbrev pub only : List View → View
only [] = no_view
only (v ∷ vs) = v

abbrev pub joined : List (List View) → List View
joined [] = []
joined (x ∷ xs) = x ++ joined xs

-- the last seat cuts another, which is then the last
abbrev pub cut_left : View → View
cut_left v = record v { is_last = false }

abbrev pub cut_right : View → View
cut_right v = new_view v.board_run (v.place + 1) true

-- the words, and the views of all seats in order
abbrev pub seats_of : State (Unit {0}) (List View) → State (Unit {0}) View
seats_of s = record { words = s.words; homes = s.homes; views = joined s.views }

-- after its step on a word the seat has the view w, and some state that the rule allows has that view and x in the word
abbrev pub Leaves : ℕ → ℕ → View → Me (Unit {0}) (List View) → Me (Unit {0}) (List View) → Type 0
Leaves word x w m m' = (m' ≡ (w ∷ [], m.1)) × Moment w (λ s. slice_index s.words word ≡ x)

-- what the table keeps for the seat after its step, by the step, what it kept before and what the step found
abbrev pub AfterStep : Type 1
AfterStep = Step (Unit {0}) → Me (Unit {0}) (List View) → ℕ → Me (Unit {0}) (List View) → Type 0

abbrev pub Publishes : AfterStep
Publishes step m found m' = Leaves step.word step.first (after_publish (only m.0) (promise_of_word step.word step.first)) m m'

abbrev pub Looks : AfterStep
Looks step m found m' = Leaves step.word found (after_look (only m.0) (promise_of_word step.word found)) m m'

abbrev pub Raises : AfterStep
Raises step m found m' = Leaves step.word 1 (after_raise (only m.0)) m m'

abbrev pub Checks : AfterStep
Checks step m found m' = Leaves step.word found (after_check (only m.0) (found == 1)) m m'

abbrev pub Finishes : AfterStep
Finishes step m found m' = Leaves step.word ((found + 1) % 2 ^ 64) (after_finish (only m.0)) m m'

abbrev pub Counts : AfterStep
Counts step m found m' = Leaves step.word found (after_count (only m.0) found) m m'
