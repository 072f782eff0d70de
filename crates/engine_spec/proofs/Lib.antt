-- Kleene's tables, and condition lists
pub mod Kleene
-- laws on lists; on the engine's runs
pub mod Lists
pub mod Runs
-- what an accepted file has passed
pub mod Validated
-- the modes: how many runs, accepted files, and what is queued for each run
pub mod Keeps
pub mod Modes
pub mod Distinct
pub mod Steps
pub mod Due
pub mod Moments
-- what all primitive changes keep, a simulation keeps
pub mod Closed
-- lent memory by refusal number
pub mod Memory
-- how many entries the areas need
pub mod Bounds
pub mod Enough
-- the page on modes, of a simulation
pub mod Page
-- a model without windows answers the same whatever its start
pub mod Windowless
-- what a window means; and that no accepted invariant has one
pub mod Windows
pub mod Stated
-- quiet hours are as the request says
pub mod Quiet
