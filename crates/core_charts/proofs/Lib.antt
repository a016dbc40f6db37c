pub mod Standing
pub mod Pieces
