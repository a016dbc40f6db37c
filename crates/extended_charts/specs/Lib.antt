pub mod Walks
pub mod Making
pub mod Reading
pub mod Durings
pub mod Signals
pub mod Holds
pub mod Inside
