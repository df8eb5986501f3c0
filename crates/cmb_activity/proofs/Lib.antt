mod OnesFacts
pub mod PartFacts
pub mod TallyFacts
mod WindowFacts
