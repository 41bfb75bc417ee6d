pub use Rattle.ht_ops.specs.Blocks
pub mod Quasis
pub mod Marks
pub mod Rounds
pub mod Walks
pub mod Kept
