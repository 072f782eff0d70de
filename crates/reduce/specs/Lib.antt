pub mod Events
pub mod Promises
