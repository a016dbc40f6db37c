pub mod Ticks
pub mod Passes
pub mod Inside
