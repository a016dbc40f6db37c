pub mod Compiled
pub mod Texts
pub mod Charts
pub mod FaultText
pub mod Inside
pub mod Graphs
pub mod Kept
pub mod Programs
