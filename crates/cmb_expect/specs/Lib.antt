-- what the public contracts rest on
pub mod Expectations
pub mod Texts
-- what the functions inside the crate promise each other
pub mod Inner
