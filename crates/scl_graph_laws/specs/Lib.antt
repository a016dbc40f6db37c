pub mod Alike
pub mod Standing
pub mod Settling
pub mod Mirrors
pub mod Ticks
pub mod Keeps
pub mod Laws
