-- The sheet that comes with the product, and that it is accepted
pub mod BuiltIn
pub mod BuiltInLaws
