pub mod Grid
pub mod JoinFacts
pub mod Lengths
pub mod Progress
pub mod Sound
pub mod TurnFacts
