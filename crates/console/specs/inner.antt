-- What the functions of src/ say to each other: no promise of an entry cites it.
pub mod Left
pub mod Shown
pub mod Walked
