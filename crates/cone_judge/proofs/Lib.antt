-- reading records for an invariant
pub mod Judge
-- a simulation and a check of two models
pub mod Check
