-- The form of a sheet's text, the machine that reads it, and the laws that the one is the other
pub mod Limits
pub mod Text
pub mod Machine
pub mod MachineLaws
pub mod WholeLaws
pub mod HeldLaws
pub mod RowsLaws
pub mod FirstBadLaws
pub mod TextLaws
