pub mod Said
pub mod Request
pub mod Inside
