mod Spelling
mod ReducedSpelling
mod Clearing
mod Begins
mod Pieces
mod Same
