-- What several proofs of this crate share.
pub mod Spans
pub mod Patterns
pub mod Shifts
pub mod Places
pub mod Ends
pub mod Scales
pub mod WorkedMarks
