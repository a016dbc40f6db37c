mod Marks
mod Row
mod StateTotals
pub mod ActiveStates
mod KeptCharts
mod Kept
