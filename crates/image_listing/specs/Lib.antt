pub mod Cells
pub mod Words
pub mod Steps
pub mod Nodes
pub mod Listing
pub mod Json
