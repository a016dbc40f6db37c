pub mod Marking
mod Turns
mod Ways
pub mod Standing
pub mod Parts
pub mod Joining
pub mod Warned
pub mod ToldOfAuthor
