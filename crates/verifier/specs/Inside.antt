-- What private functions alone say of themselves. It is proved, and no public contract rests on what it means.
pub mod Faults
pub mod ByNode
pub mod Pairs
pub mod Each
pub mod Chosen
pub mod Linked
pub mod Known
