pub mod Coming
pub mod Cutting
pub mod Ending
pub mod Failures
pub mod HeldBack
pub mod HeldLines
pub mod OneTrace
pub mod Playing
pub mod Resting
pub mod Splits
pub mod Took
pub mod Turning
pub mod LineComing
pub mod LineFailures
mod Played
