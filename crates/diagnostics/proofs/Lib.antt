pub mod Nowhere
pub mod Answered
pub mod Following
mod Joining
mod Drafted
