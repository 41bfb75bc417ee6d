pub mod QuestionTexts
pub mod KindTexts
pub mod TypedLaws
pub mod ShareLaws
pub mod VerdictLaws
