pub mod Contract
pub mod Promises
pub mod Pool
