-- what the public contracts rest on
pub mod Checks
pub mod Nets
pub mod Rows
pub mod Design
pub mod Timing
pub mod Settings
pub mod Lawful
pub mod Gate
pub mod Value
pub mod Exact
pub mod Examples
pub mod Faults
pub mod Ranges
pub mod Plain
pub mod Part
pub mod Expected
-- what the functions inside the crate promise each other
-- what the functions inside the crate promise each other
pub mod Inner
