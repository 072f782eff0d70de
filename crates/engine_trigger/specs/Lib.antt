pub mod Runs
pub mod Triggers
