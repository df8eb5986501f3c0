pub mod EventFacts
pub mod HandFacts
pub mod RoundFacts
