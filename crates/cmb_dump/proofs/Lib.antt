pub mod FillFacts
pub mod WindowFacts
pub mod PickFacts
pub mod ReadyFacts
pub mod ShownFacts
pub mod KeptFacts
