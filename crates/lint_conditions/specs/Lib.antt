pub mod Conditions
pub mod Context
