mod Refused
pub mod Texts
pub mod Charts
pub mod Making
pub mod Spelling
