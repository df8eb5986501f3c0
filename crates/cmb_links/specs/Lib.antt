-- what the public contracts rest on
pub mod Faults
pub mod Workers
pub mod Promises
pub mod Links
pub mod Seats
pub mod Boards
-- what the functions inside the crate promise each other
-- what the functions inside the crate promise each other
-- what the functions inside the crate promise each other
pub mod Inner
