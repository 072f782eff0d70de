-- the model file
pub mod Lampdoor
-- what is written of an answer
pub mod Printed
-- the claim
pub mod ShowCheck
