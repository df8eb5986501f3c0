-- What stays of a seat at a board, whatever steps it makes.
use Rattle.std.specs.Prelude.{false}
use Rattle.cmb_links.specs.Seats.{SeatData, new_seat}

-- the seat as it stood when nothing had been done there
abbrev pub at_first : SeatData → SeatData
at_first seat = new_seat seat.board seat.view.board_run false seat.view.place
