mod Folded
mod Ended
mod Left
mod Made
mod Once
mod Past
mod Staying
mod Timed
mod Walking
pub mod Reduced
