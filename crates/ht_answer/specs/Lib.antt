pub use Rattle.ht_text.specs.Texts
pub use Rattle.ht_text.specs.Writes
pub mod KindTexts
pub mod OrderTexts
pub mod OrbitTexts
pub mod Answers
