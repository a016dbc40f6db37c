mod NodeCounts
mod StateCounts
mod Walking
mod Regions
mod Reading
pub mod Told
mod Resting
pub mod Ticks
pub mod StepsFollowed
pub mod LateTests
pub mod Mirrored
pub mod AtJoins
pub mod Stands
pub mod TestNodes
pub mod TickStarts
mod NumbersInRow
pub mod Plain
