-- what the public contracts rest on
pub mod Passed
pub mod RunFaults
pub mod OfRun
-- what the functions inside the crate promise each other
pub mod Inner
