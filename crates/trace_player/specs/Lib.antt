pub mod Channels
pub mod FaultText
pub mod Trace
pub mod Published
pub mod Unread
pub mod Inside
pub mod Played
pub mod Came
