-- what stands at positions: numbers, predicates, triggers, branches, actions
pub mod Numbers
pub mod Evaluate
pub mod Checked
pub mod Effects
-- a run's places
pub mod Stack
-- an area that was full
pub mod Overflow
pub mod Full
-- machine and engine, and the primitive changes
pub mod Lists
pub mod Pigeonhole
pub mod Relation
-- a record's words
pub mod Words
pub mod Pool
-- what an item does, from the bottom up
pub mod Update
pub mod Runs
pub mod Triggers
pub mod Perform
pub mod Handlers
-- the loop, and a whole simulation
pub mod Loop
pub mod Simulated
-- accepted files, and the entry
pub mod Accepted
pub mod Tables
pub mod Outcome
