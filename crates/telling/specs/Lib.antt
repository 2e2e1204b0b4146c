-- Each answer as the struct that C gets
pub mod Flat
pub mod Pieces
pub mod PiecesLaws
