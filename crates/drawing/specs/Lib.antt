pub mod Expressions
pub mod Labels
pub mod Drawing
pub mod Inside
pub mod Symbols
pub mod Triggers
pub mod Actions
pub mod Transitions
