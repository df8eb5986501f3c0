pub mod FieldFacts
pub mod RecordFacts
pub mod ReadFacts
pub mod ReaderFacts
pub mod TableFacts
pub mod BoundFacts
