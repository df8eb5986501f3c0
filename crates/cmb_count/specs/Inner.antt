-- What the functions inside the crate promise each other. No public contract cites it.
pub mod Arrivals
pub mod ClockSets
pub mod LongestPaths
pub mod Marks
