pub mod Verdict
pub mod FaultText
pub mod Inside
