pub mod Limits
pub mod Rows
pub mod Table
pub mod Growth
pub mod GrowthLaws
