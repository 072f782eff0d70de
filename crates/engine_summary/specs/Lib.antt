pub mod Summary
pub mod Summaries
