pub use Rattle.ht_pair.specs.Images
pub use Rattle.ht_answer.specs.Answers
pub mod Questions
pub mod ShownImages
pub mod PartAnswers
pub mod ShareAnswers
