-- A link and its two passes, each with the pieces that went through it. A link carries the channels of some nets.
use Rattle.std.specs.Prelude.{◌≡◌, ℕ, ◌==◌, List, [], ◌∷◌, ◌++◌, if◌then◌else◌, max}
use Rattle.atomic_table.specs.Seated.{TableId}
use Rattle.cmb_wave.specs.Wave.{Piece}
use Rattle.cmb_design_model.specs.Design.{Design}

pub record LinkData : Type 0 where
  pub link : TableId
  pub capacity : ℕ

pub record PutData : Type 0 where
  pub link : TableId
  pub design : Design
  pub nets : List ℕ
  pub sent : List Piece

pub record TakeData : Type 0 where
  pub link : TableId
  pub design : Design
  pub nets : List ℕ
  pub received : List Piece

abbrev pub after_put : PutData → Piece → PutData
after_put pass piece = record { link = pass.link; design = pass.design; nets = pass.nets; sent = pass.sent ++ piece ∷ [] }

abbrev pub after_take : TakeData → Piece → TakeData
after_take pass piece = record { link = pass.link; design = pass.design; nets = pass.nets; received = pass.received ++ piece ∷ [] }

-- the clock of a net's channel after these pieces: the greatest tick at which one of the net ends, 0 where there is none
abbrev pub channel_clock : ℕ → List Piece → ℕ
channel_clock net [] = 0
channel_clock net (piece ∷ pieces) = max (if piece.net == net then piece.to else 0) (channel_clock net pieces)

-- both ends are of this link, for this design and these nets, and nothing was sent
pub record IsNewLink (design : Design) (nets : List ℕ) (capacity : ℕ) (link : LinkData) (put : PutData) (take : TakeData) : Type 0 where
  pub capacity_is : link.capacity ≡ capacity
  pub put_is : put ≡ record { link = link.link; design = design; nets = nets; sent = [] }
  pub take_is : take ≡ record { link = link.link; design = design; nets = nets; received = [] }
