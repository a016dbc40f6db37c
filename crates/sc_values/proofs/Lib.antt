pub mod Merge
pub mod Induction
pub mod Division
pub mod Spelling
pub mod Loading
pub mod WellKinded
pub mod Equality
pub mod Names
pub mod Loaded
pub mod Running
pub mod Numbering
pub mod Evaluating
pub mod Testing
pub mod Writing
pub mod Ending
pub mod Order
pub mod Literals
mod Reading
