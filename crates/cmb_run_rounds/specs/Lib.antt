-- what the public contracts rest on
pub mod RoundEvents
-- what the functions inside the crate promise each other
pub mod Inner
