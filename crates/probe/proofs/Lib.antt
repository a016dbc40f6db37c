pub mod Prefixes
pub mod Adding
pub mod Seats
pub mod Few
pub mod Last
