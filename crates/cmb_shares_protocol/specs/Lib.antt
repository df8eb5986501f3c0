pub mod Machine
pub mod Network
pub mod Runs
pub mod Turns
