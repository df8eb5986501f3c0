pub mod DayFacts
pub mod OrderFacts
