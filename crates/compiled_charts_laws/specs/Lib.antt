pub mod Nodes
pub mod Stands
pub mod Reactions
pub mod Laws
