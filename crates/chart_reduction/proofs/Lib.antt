pub mod Folded
pub mod ByRules
pub mod PlainParts
pub mod PlainValues
pub mod PlainClocks
pub mod PlainExits
pub mod PlainEndings
pub mod PlainDurings
pub mod PlainHistories
pub mod PlainHolds
pub mod PlainEntry
pub mod Plain
mod ReductionRows
pub mod ValueFolded
pub mod EndingStates
pub mod CountedStates
pub mod Handed
pub mod EntryFolded
pub mod Left
pub mod PastStates
mod ExitRows
mod HistoryRows
