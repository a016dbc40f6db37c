pub mod Expanded
pub mod Preempting
pub mod Entered
