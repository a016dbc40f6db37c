pub mod Within
pub mod Listing
pub mod Gaining
pub mod Variables
pub mod Instantly
pub mod Answer
pub mod Standing
pub mod AlongVariables
mod Alone
mod Finding
mod Covered
mod Agreeing
