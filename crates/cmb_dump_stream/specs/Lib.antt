pub mod Parts
pub mod Streams
