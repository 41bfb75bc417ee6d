pub use Rattle.ht_types.specs.Links
pub mod Listing
