pub use Rattle.ht_types.specs.TypedElements
pub mod Flowing
pub mod Rounds
