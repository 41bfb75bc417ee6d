pub mod PowerAnswers
pub mod Expansions
