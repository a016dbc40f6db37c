pub mod Nodes
pub mod StandsFor
pub mod Active
