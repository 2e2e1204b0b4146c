-- What several proofs of this crate share: the powers of ten, and what the reading keeps.
pub mod Tens
pub mod Parts
