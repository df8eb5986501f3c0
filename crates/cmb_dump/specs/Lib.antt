-- what the public contracts rest on
pub mod Dumps
pub mod Shown
-- what the functions inside the crate promise each other
pub mod Inner
