-- What the functions inside the crate promise each other. No public contract cites it.
pub mod Inside
pub mod PlainTable
pub mod Stimuli
pub mod Tables
pub mod RowLevels
