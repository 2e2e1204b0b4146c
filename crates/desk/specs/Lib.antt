pub mod Limits
pub mod Asking
pub mod Names
pub mod Sheets
