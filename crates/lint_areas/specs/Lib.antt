pub mod Areas
pub mod Filled
