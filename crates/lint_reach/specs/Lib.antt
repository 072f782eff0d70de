pub mod Sets
pub mod Steps
pub mod Paths
pub mod Cycles
