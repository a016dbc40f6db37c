pub mod Accepted
mod NotedForks
mod OwnRoom
mod Unmoved
pub mod ShortCodes
mod LeadingThreads
mod Opened
mod InputValues
mod StartKept
mod Starts
mod Counts
mod NextSteps
mod LivingChildren
mod Entered
mod ListedCounts
pub mod ListedThreads
mod ListedWoken
pub mod Covered
mod StaysListed
pub mod ListedEntered
pub mod ListedCopied
pub mod ListedStart
pub mod Reports
pub mod Taken
pub mod Fresh
pub mod StateKept
mod KeptBehind
mod GoingOn
mod SpareKept
pub mod Claiming
pub mod SameClaim
pub mod EveryOrder
pub mod Replaying
pub mod Forbidding
pub mod OneJudgement
pub mod JudgedBySteps
pub mod Lists
pub mod Classes
pub mod Entering
pub mod Leaving
pub mod Moving
mod Reading
pub mod Counting
pub mod Fitting
