pub mod Followers
pub mod Inside
