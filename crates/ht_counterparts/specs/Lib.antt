pub mod Counterparts
pub mod Ends
