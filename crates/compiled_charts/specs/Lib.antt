pub mod Ticks
pub mod Refused
pub mod Compiled
pub mod Kept
pub mod Inside
