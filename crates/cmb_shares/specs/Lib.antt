-- what the functions inside the crate promise each other
pub mod Inner
-- what shares make of their nets
pub mod Traces
