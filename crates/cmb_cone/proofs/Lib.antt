pub mod ValueFacts
pub mod RowFacts
pub mod CheckFacts
pub mod PartFacts
pub mod FoundFacts
pub mod RestrictFacts
pub mod ChosenFacts
