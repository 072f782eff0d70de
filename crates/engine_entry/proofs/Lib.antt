pub mod Laws
-- which numbers refuse a simulation
pub mod Numbers
-- the values at the end
pub mod Final
-- the code's simulation is the definition's
pub mod Refines
pub mod RunEvents
-- the entries
pub mod Entry
