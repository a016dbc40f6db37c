pub mod Rising
pub mod Ranking
pub mod Tracing
