-- What the functions of src/ say to each other: the promise of a form does not cite it.
pub mod Seen
pub mod Taking
