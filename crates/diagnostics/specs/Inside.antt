-- What private functions alone say of themselves. It is proved, and no public contract rests on what it means.
pub mod CouldFollow
pub mod Lists
pub mod Pages
