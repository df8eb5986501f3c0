pub mod ChannelFacts
pub mod RunFacts
pub mod TextWriterFacts
pub mod TextRuns
pub mod TurnFacts
