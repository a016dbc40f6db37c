pub mod Flags
pub mod Taking
