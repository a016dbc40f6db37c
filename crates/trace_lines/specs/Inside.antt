-- What private functions alone say of themselves. It is proved, and no public contract rests on what it means.
pub mod Expected
pub mod Members
pub mod Named
pub mod Ordered
pub mod Rows
pub mod Kept
pub mod Causes
