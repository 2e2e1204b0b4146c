-- What several proofs of this crate share.
pub mod Reading
pub mod Written
