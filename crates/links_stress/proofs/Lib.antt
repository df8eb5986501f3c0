mod Seats
pub mod Carried
