-- A machine over bytes, numbers in decimal, their reading, and texts in a buffer and how long they are: what each is, and the laws that other crates cite
pub mod Fold
pub mod FoldLaws
pub mod Decimal
pub mod DecimalLaws
pub mod DigitsLaws
pub mod Wholes
pub mod WholesLaws
pub mod Bytes
pub mod Put
pub mod PutLaws
pub mod Puts
pub mod PutsLaws
