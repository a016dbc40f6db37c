pub mod Popped
pub mod Statuses
