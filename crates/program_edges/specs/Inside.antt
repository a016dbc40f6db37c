-- What private functions alone say of themselves. It is proved, and no public contract rests on what it means.
pub mod Behind
pub mod Beside
pub mod NoConflicts
pub mod Candidates
pub mod Agreement
pub mod TakingIn
