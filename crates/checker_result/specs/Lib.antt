pub mod Statuses
pub mod Result
pub mod Verdicts
