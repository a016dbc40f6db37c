pub mod Pieces
pub mod Words
pub mod Tree
pub mod History
pub mod Commands
pub mod Lines
pub mod Inside
