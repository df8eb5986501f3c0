-- what the public contracts rest on
pub mod Beginnings
pub mod Chosen
pub mod Collector
pub mod Examples
pub mod Faults
pub mod ReadyCodes
pub mod Vcd
pub mod Writer
pub mod Between
-- what the functions inside the crate promise each other
pub mod Inner
