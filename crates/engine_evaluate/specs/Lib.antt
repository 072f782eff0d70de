pub mod Evaluate
pub mod Actions
