pub mod Alike
mod Moving
mod Agreeing
mod Assigning
pub mod Targets
mod Forking
mod Stepping
mod StepsAlike
mod Inputs
mod Beginning
pub mod Graphs
pub mod Numbers
pub mod Segments
mod Ways
mod Laying
mod Reaching
mod Spreading
pub mod Coming
pub mod Whole
pub mod Jumping
pub mod Searching
pub mod Scopes
pub mod Texts
pub mod Contents
pub mod Gathering
pub mod RunsKept
pub mod Looping
pub mod Forkers
mod Sources
mod Operands
mod Levels
pub mod Fitting
pub mod Coding
pub mod NodesFormed
pub mod Forming
pub mod StepRules
mod Rows
