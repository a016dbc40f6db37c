pub mod Users
pub mod Sorts
pub mod Conflicts
pub mod Extremes
pub mod AlongVariables
pub mod Inside
