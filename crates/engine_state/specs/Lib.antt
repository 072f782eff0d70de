pub mod Machine
pub mod Changes
pub mod Steps
