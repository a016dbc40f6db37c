pub mod Charts
pub mod Written
pub mod Told
pub mod Files
pub mod Inside
