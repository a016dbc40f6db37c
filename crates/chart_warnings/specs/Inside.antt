pub mod Marks
pub mod Gaining
