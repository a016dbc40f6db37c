pub mod Ahead
pub mod Cut
pub mod Expecting
pub mod Feeds
pub mod FirstFeed
pub mod Given
pub mod InOrder
pub mod Placing
pub mod Shown
pub mod Standing
pub mod Turns
pub mod AddedInputs
pub mod KeptLines
pub mod Behind
pub mod CauseGiven
pub mod Lacking
mod Missed
