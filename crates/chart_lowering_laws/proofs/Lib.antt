pub mod NumberTests
mod Waiting
pub mod Ordering
pub mod Following
pub mod Entering
pub mod LeadAlike
pub mod Matching
mod Structure
mod Updating
mod Stepping
mod Silently
pub mod Joining
mod Steps
pub mod Finished
mod Joins
mod Alone
pub mod Catching
pub mod Showing
pub mod ByRegions
mod Resting
mod Apart
mod RegionsWait
mod Woken
mod Beginning
mod Entered
mod Starting
mod Quieting
mod ByThreads
mod OtherThreads
mod ForkedTurns
mod ThreadsWait
pub mod Ending
mod Reactions
pub mod TicksKept
pub mod Texts
mod Labels
pub mod OwnNames
mod Behind
pub mod Finding
mod Counting
pub mod ActiveStates
pub mod Rows
pub mod Passing
pub mod Walking
mod InitialFirst
mod StateTexts
mod InitialStates
mod Among
mod Whole
pub mod Marking
mod Reading
mod ReadingOff
mod Forks
mod Leading
mod Tree
mod Depths
mod Opening
mod Supers
pub mod Lowered
pub mod Telling
mod Pausing
