pub mod Hands
pub mod Holds
pub mod Pieces
pub mod Seats
