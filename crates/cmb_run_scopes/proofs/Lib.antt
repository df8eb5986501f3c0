pub mod PartFacts
pub mod BitFacts
pub mod GroupFacts
pub mod HeaderFacts
pub mod WriteFacts
pub mod Walks
pub mod Counted
pub mod FormFacts
