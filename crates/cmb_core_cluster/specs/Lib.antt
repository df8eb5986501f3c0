-- what the public contracts rest on
pub mod Assigns
pub mod Clustering
pub mod Clusters
pub mod Deliveries
pub mod Directory
pub mod Exactness
pub mod Faults
pub mod Onward
pub mod Opened
pub mod Reach
pub mod Rows
pub mod Step
pub mod Sweep
pub mod Trims
-- what the functions inside the crate promise each other
pub mod Inner
