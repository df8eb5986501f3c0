-- what the public contracts rest on
pub mod Ends
pub mod Sources
