pub mod Walks
pub mod HeldStates
pub mod ActingStates
pub mod Emitting
