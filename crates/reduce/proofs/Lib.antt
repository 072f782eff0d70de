pub mod Laws
-- events as words, with one left out
pub mod Words
-- what the code finds of a check is what the definition finds
pub mod Violations
-- one attempt, and the loop
pub mod Reduction
