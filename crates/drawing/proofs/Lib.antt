mod WrittenTrees
mod Putting
