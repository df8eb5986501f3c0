-- What the functions inside the crate promise each other. No public contract cites it.
pub mod Added
pub mod Buckets
pub mod Kept
pub mod Picks
pub mod Ready
pub mod Tails
