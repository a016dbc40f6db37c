pub mod Laying
pub mod Forking
pub mod Totals
pub mod Tallies
pub mod Gathering
pub mod Settling
pub mod Resolving
