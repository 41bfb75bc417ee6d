pub use Rattle.ht_types.specs.TypedElements
pub mod Runs
pub mod Cycles
pub mod MatchedLengths
pub mod Matches
