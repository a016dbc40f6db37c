pub mod Chart
pub mod Tests
pub mod Aborts
pub mod Rules
pub mod Numbers
pub mod Elements
pub mod Paths
