-- what the public contracts rest on
pub mod Bits
pub mod Changes
pub mod Holds
pub mod Joint
pub mod Word
-- what the functions inside the crate promise each other
pub mod Inner
