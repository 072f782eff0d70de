pub mod GapWords
pub mod Inputs
