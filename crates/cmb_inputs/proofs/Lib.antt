pub mod Expectations
pub mod Read
pub mod Spelled
