-- what the public contracts rest on
pub mod Kinds
pub mod Netlist
-- what the functions inside the crate promise each other
pub mod Inner
