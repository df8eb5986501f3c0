-- What the functions inside the crate promise each other. No public contract cites it.
pub mod Channels
pub mod Flows
pub mod Gatherings
pub mod Messages
pub mod Opened
pub mod Processes
pub mod Runs
pub mod Simulators
pub mod Stations
pub mod Texts
