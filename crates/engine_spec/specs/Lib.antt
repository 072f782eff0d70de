pub mod Each
pub mod Cells
pub mod Kleene
pub mod Truth
pub mod Modes
pub mod Reasons
pub mod Unsupported
pub mod Records
pub mod Changes
pub mod Engine
pub mod Simulate
pub mod Memory
pub mod Words
pub mod Bounds
pub mod Page
-- what the request says of quiet hours
pub mod Quiet
