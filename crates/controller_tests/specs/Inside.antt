-- What private functions alone say of themselves. It is proved, and no public contract rests on what it means.
pub mod Lines
pub mod Comparing
pub mod Judging
pub mod Putting
pub mod Saying
