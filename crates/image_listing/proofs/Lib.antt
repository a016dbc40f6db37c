mod Spaces
mod CellsFound
