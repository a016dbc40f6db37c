pub mod Puts
pub mod Seen
