pub mod Parts
mod Names
mod Once
mod Pieces
mod Inside
mod Bodies
mod Distinct
mod RegionBodies
mod PiecesKept
pub mod Ruled
mod LoweringRows
