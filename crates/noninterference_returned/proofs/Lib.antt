-- texts of the file by their places
pub mod Places
-- a violation's numbers
pub mod Numbers
-- a witness's events are made of the alphabet's inputs
pub mod Chosen
-- what check returns
pub mod Returned
-- what verify returns
pub mod Found
-- the theorem
pub mod Demand
