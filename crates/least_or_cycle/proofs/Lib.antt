pub mod Upward
pub mod Ranked
pub mod Walking
pub mod Cutting
pub mod Closing
