pub mod AddressLaws
pub mod FlowingLaws
pub mod HeadLaws
pub mod StripLaws
pub mod AddressMade
