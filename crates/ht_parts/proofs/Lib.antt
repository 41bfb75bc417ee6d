pub mod OrderLaws
pub mod CycleTests
pub mod WithinLaws
pub mod PartLaws
pub mod RowLaws
