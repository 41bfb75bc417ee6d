pub use Rattle.ht_pair.specs.HeldBases
pub mod Draws
pub mod Rooms
pub mod Growth
pub mod Shuffles
pub mod Groups
pub mod Samples
