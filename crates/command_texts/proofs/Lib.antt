pub mod Cores
pub mod Lacking
pub mod Placed
pub mod Drawn
pub mod Sourced
