pub mod ModelChecks
pub mod Contract
