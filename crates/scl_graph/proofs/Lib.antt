mod Pieces
mod Tallied
pub mod Before
mod Laid
mod Branching
mod Gathered
mod GatheredBelow
mod NumberRooms
mod Circling
mod Placed
pub mod Fronts
mod LeastGoto
mod Leading
pub mod Resolved
mod Example
mod AbroRows
mod LoopRows
