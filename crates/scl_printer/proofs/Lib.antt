mod Written
mod ShownTrees
mod OpenTrees
mod Opening
mod Shown
pub mod Nested
mod Rows
mod Lined
