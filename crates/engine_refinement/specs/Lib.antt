pub mod Meaning
pub mod Events
