-- What several proofs of this crate share, from the written lists to the start of a walk.
pub mod Laid
pub mod Asking
pub mod Halves
pub mod Sofar
pub mod Start
