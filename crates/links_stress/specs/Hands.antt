-- What a worker's thread is handed, and what it leaves.
use Rattle.std.specs.Prelude.{◌≡◌, ℕ, ◌==◌, false, [], ◌∷◌, if◌then◌else◌}
use Rattle.cmb_links.specs.Links.{LinkData}
use Rattle.cmb_links.specs.Seats.{new_seat, board_run}
use Rattle.cmb_links.specs.declared.view.BoardRun.{BoardRun}
use Rattle.links_stress.specs.Seats.{at_first}
use Rattle.links_stress.specs.declared.circuit.Circuit.{Circuit}
use Rattle.links_stress.specs.declared.closing.Room.{Room}
use Rattle.links_stress.specs.declared.run.Hand.{Hand}
use Rattle.links_stress.specs.declared.worker.Left.{Left}

-- what the board of a circuit's two workers is opened for
abbrev pub board_terms : Circuit → BoardRun
board_terms circuit = board_run circuit.design circuit.clustering 2

-- the link into which a worker puts, and the one from which it takes
abbrev pub link_out : Room → ℕ → LinkData
link_out room place = if place == 0 then room.there else room.back

abbrev pub link_into : Room → ℕ → LinkData
link_into room place = if place == 0 then room.back else room.there

-- the net that it tells the other one about
abbrev pub told_of : ℕ → ℕ
told_of place = if place == 0 then 0 else 3

-- a worker's new seat at the board, and its passes of the two links
pub record IsHand (room : Room) (circuit : Circuit) (place : ℕ) (hand : Hand) : Type 0 where
  pub seat : hand.seat ≡ new_seat room.board (board_terms circuit) false place
  pub put : hand.put.link ≡ (link_out room place).link
  pub puts : hand.put.design ≡ circuit.design
  pub told : hand.put.nets ≡ told_of place ∷ []
  pub take : hand.take.link ≡ (link_into room place).link
  pub takes : hand.take.design ≡ circuit.design

-- the same seat, whatever was done there, and passes of the same links
pub record IsLeft (room : Room) (circuit : Circuit) (place : ℕ) (left : Left) : Type 0 where
  pub seat : at_first left.seat ≡ new_seat room.board (board_terms circuit) false place
  pub put : left.put.link ≡ (link_out room place).link
  pub take : left.take.link ≡ (link_into room place).link
