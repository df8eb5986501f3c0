-- what the public contracts rest on
pub mod Scopes
pub mod Reading
-- what the functions inside the crate promise each other
pub mod Inner
