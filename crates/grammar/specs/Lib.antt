pub mod Grammar
pub mod Predictive
pub mod Read
pub mod Deeper
pub mod Fault
pub mod Sums
