pub mod Lists
mod Expressions
mod Taken
mod Leaving
mod Apart
pub mod Added
mod Shapes
mod Joined
mod Alone
pub mod Inner
mod Splitting
mod Prepared
mod Staying
mod Within
pub mod Assembled
mod Regional
mod Shaped
mod CoreRulesKept
mod Whole
mod FewRegions
mod PieceParts
mod ExpansionRows
mod NestedRows
