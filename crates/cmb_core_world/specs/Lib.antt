-- what the public contracts rest on
pub mod Play
pub mod Rounds
pub mod World
-- what the functions inside the crate promise each other
pub mod Inner
