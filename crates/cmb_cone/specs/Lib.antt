-- what the public contracts rest on
pub mod Closed
pub mod Restriction
pub mod Chosen
-- what the functions inside the crate promise each other
pub mod Inner
