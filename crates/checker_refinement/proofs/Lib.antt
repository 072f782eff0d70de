-- a response, by what its predicates say
pub mod Response
-- one record
pub mod Record
-- all records
pub mod Judge
-- its reasons
pub mod Reasons
