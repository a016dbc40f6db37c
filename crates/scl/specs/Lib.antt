pub mod Rules
pub mod Block
pub mod Numbering
pub mod Sums
pub mod Labels
pub mod Places
pub mod Meaning
