pub mod Failing
pub mod Inside
pub mod Met
pub mod Places
pub mod Runs
pub mod Texts
pub mod Lines
pub mod Trace
