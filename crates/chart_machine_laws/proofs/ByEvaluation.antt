-- What small charts do, by evaluation of the definition: a file for each of its clauses.
pub mod Charts
pub mod Told
pub mod Numbers
pub mod SimpleStates
pub mod Effects
pub mod StrongAborts
pub mod WeakAborts
pub mod Terminations
pub mod OrderOfTests
pub mod Dropping
pub mod Concurrency
