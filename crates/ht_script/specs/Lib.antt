pub use Rattle.ht_text.specs.Texts
pub use Rattle.ht_text.specs.Fronts
pub mod Tokens
pub mod Names
pub mod Factors
pub mod Exponents
pub mod Lines
pub mod Slots
