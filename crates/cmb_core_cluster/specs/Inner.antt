-- What the functions inside the crate promise each other. No public contract cites it.
pub mod Arrivals
pub mod Opening
pub mod Processes
pub mod Spans
