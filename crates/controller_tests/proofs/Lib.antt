mod Alike
mod Cut
mod Listed
mod Replayed
mod Stem
pub mod Tested
mod Named
mod Tried
mod Verdicts
