-- What private functions alone say of themselves. It is proved, and no public contract rests on what it means.
pub mod Inputs
pub mod Leading
pub mod Judging
pub mod Turns
pub mod Work
pub mod ShortCodes
pub mod Onward
pub mod Waking
pub mod Astir
pub mod Places
