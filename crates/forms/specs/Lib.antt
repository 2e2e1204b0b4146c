-- What each form of `keys` prints, over the bytes that were read
pub mod Arguments
pub mod ArgumentsLaws
pub mod Limits
pub mod Pages
pub mod Questions
pub mod QuestionsLaws
pub mod Sheets
pub mod SheetsLaws
pub mod inner
