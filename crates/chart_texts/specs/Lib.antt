pub mod CoreText
pub mod ReducedText
pub mod FirstWord
pub mod Sources
pub mod Inside
pub mod Layout
pub mod Renaming
