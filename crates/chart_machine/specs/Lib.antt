pub mod Table
pub mod Turns
pub mod Steps
pub mod Machine
pub mod InOrder
pub mod Inside
