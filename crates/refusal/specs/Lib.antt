pub mod Named
pub mod Refusals
pub mod BoolLaws
pub mod RefusalsLaws
pub mod OrdersLaws
