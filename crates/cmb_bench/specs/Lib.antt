-- what the public contracts rest on
pub mod Text
pub mod Statement
pub mod Grammar
pub mod Meaning
pub mod FirstFault
pub mod Buses
pub mod Listed
-- what the functions inside the crate promise each other
-- what the functions inside the crate promise each other
pub mod Inner
