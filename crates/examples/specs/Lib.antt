pub mod Files
pub mod Examples
pub mod Windows
