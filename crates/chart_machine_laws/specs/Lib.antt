pub mod Tree
pub mod Progress
