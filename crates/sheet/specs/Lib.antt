-- A sheet list's acceptance, and what the calls on a sheet tell: definitions, and the laws that other crates cite
pub mod Sheet
pub mod Answers
pub mod Writing
pub mod Pieces
pub mod SheetLaws
pub mod FormLaws
pub mod OneOutcome
pub mod Demand1Laws
pub mod AnswersLaws
pub mod ExampleSheets
pub mod ExampleSheetsLaws
pub mod WritingLaws
pub mod PiecesLaws
