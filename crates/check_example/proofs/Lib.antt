-- the scope's example of showcheck
pub mod ShowCheck
