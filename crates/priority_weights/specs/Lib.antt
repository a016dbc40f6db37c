pub mod Edges
pub mod LeastTables
pub mod FaultText
pub mod Inside
