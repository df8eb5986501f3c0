pub mod ClusterFacts
pub mod RunClocks
