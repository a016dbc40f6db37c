mod Found
pub mod TextImages
pub mod Loading
mod Same
mod StoodFor
pub mod Texts
