pub mod Writing
pub mod Levels
pub mod Seen
