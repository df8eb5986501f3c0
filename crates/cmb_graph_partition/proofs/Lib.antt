pub mod PartitionFacts
pub mod WholeFacts
