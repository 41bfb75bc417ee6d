pub mod Counts
pub mod FileMaps
pub mod InMemory
