-- Burning: definitions, what the call tells, and the laws that other crates cite
pub mod Burning
pub mod Fuel
pub mod Answers
pub mod inner
pub mod BurningLaws
pub mod FuelLaws
pub mod OneOutcome
pub mod Demand1Laws
