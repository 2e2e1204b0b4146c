-- What several proofs of this crate share: the promises of the calls that write into lent lists.
pub mod Promised
