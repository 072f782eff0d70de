pub mod Contract
pub mod Prepared
pub mod Promises
