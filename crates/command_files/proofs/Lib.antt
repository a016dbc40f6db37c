pub mod Held
pub mod Lacking
pub mod Made
pub mod Naming
pub mod Sourced
