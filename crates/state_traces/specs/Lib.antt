pub mod Lines
pub mod Listed
pub mod Trace
pub mod Inside
