pub mod AnswerTexts
pub mod Pieces
pub mod TypesTexts
