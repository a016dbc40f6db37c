pub mod Graph
pub mod Counting
pub mod Loops
pub mod Answers
pub mod Inside
