pub mod Fields
pub mod Words
pub mod FieldsLaws
pub mod WordsLaws
pub mod OneOutcome
