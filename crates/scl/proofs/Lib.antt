mod Example
mod LabelRows
pub mod RulesRows
pub mod Sums
