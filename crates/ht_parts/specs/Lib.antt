pub use Rattle.ht_types.specs.KnownOrders
pub mod LargeParts
pub mod PartRows
