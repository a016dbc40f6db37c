pub mod Lowering
pub mod Inside
