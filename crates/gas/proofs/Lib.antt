-- What several proofs of this crate share.
pub mod Lines
pub mod HeatSearch
pub mod Short
pub mod LastRow
