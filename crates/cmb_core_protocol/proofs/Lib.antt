pub mod Commute
pub mod Machine
pub mod Progress
