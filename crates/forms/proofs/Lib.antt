-- What several proofs of this crate share.
pub mod Arriving
pub mod Notes
pub mod Printing
