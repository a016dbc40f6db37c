-- What the space of ticks holds beside the configuration: tables of its program, and lists that are kept from tick to tick.
pub mod Joins
pub mod Given
pub mod Sorting
pub mod Living
pub mod There
