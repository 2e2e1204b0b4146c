pub mod Typed
pub mod TypedLaws
