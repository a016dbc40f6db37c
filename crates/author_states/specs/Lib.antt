pub mod Paths
pub mod Own
pub mod Author
pub mod Authored
pub mod Inside
