pub mod Reports
pub mod Continuations
pub mod Inside
pub mod ListReports
