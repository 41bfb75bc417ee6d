pub use Rattle.ht_pair.specs.Products
pub mod Blocks
pub mod ImageRows
pub mod Walks
