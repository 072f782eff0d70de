-- what a check returns is what the readings give
pub mod Readings
-- the statement's premises give the engine's
pub mod Alike
-- the search
pub mod Search
-- the theorem
pub mod Demand
