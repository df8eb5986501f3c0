-- What the functions inside the crate promise each other: reading from left to right. No public contract cites it.
pub mod Snippet
pub mod Word
pub mod Said
pub mod Scan
pub mod Views
pub mod Reading
pub mod Building
pub mod Faulty
