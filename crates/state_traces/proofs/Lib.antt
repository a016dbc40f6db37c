mod Lines
pub mod Listed
mod Plain
mod Playing
