pub mod Some
pub mod Candidates
pub mod Visits
-- a model without windows answers the same whatever its start
pub mod Windowless
pub mod AnyStart
