pub mod Outside
pub mod RegionRows
pub mod Replaying
pub mod Superstates
pub mod Values
