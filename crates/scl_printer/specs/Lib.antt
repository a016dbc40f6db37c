pub mod Expressions
pub mod Layout
pub mod Inside
