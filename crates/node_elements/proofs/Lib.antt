pub mod Telling
mod Standing
mod GraphTelling
mod PieceParts
mod Coming
mod Enclosing
mod Chosen
mod Shapes
mod Splitting
mod SuperstateOrigins
mod RegionOrigins
mod ExpansionTelling
mod FromRows
mod Single
mod Moving
mod LoweringTelling
