pub mod Told
pub mod Cycles
pub mod CyclePowers
pub mod FiniteOrders
pub mod RatesTold
pub mod SignsTold
