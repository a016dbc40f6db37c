pub mod Outputs
pub mod Progress
pub mod Published
pub mod Inside
