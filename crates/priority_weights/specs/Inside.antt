-- What private functions alone say of themselves. It is proved, and no public contract rests on what it means.
pub mod Entries
pub mod Next
pub mod Falling
pub mod Ordered
pub mod Bounds
pub mod Parts
