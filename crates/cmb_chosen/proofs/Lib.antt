mod LevelFacts
pub mod PruneFacts
pub mod PartFacts
