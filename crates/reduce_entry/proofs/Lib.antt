-- the file with the events that are left
pub mod File
-- the reduction and the entry, by the definition
pub mod Outcome
pub mod Entry
