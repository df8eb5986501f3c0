pub mod Checking
pub mod Chosen
pub mod Expected
pub mod Inputs
pub mod Outputs
pub mod Spelling
