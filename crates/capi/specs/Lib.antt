pub mod Lent
pub mod Demand1
pub mod OneOutcome
pub mod Demand1Laws
