pub mod Resume
pub mod Dispatch
