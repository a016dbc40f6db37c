pub mod Values
pub mod Held
mod Accepted
mod Resting
mod Uneven
mod Refused
mod Told
