pub mod NewWorlds
pub mod Plays
pub mod RoundFacts
pub mod Runs
pub mod Turns
pub mod Worlds
