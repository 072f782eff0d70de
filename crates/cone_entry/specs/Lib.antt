pub mod Contract
pub mod Promises
