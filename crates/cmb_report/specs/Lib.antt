pub mod Lines
pub mod Slips
pub mod Stats
pub mod Progress
pub mod Words
