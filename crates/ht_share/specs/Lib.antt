pub use Rattle.ht_types.specs.TypedElements
pub mod Exits
pub mod InnerWords
pub mod PondLists
pub mod PondWalks
