-- what invariants name and automations need, as sets
pub mod Named
-- the entities that an accepted model's invariants name are declared
pub mod Declared
-- a round: which automation comes in
pub mod Selection
-- all rounds
pub mod Closing
-- from the start on
pub mod Start
-- the sets of the answer
pub mod Ends
-- the undeclared names of the answer
pub mod Undeclared
