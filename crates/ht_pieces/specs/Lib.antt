pub mod Pieces
pub mod Agreements
pub mod Values
