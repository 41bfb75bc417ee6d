pub mod AtomLists
pub mod Joins
pub mod Trees
pub mod Pieces
