pub mod PutCounts
pub mod RuleKept
