pub mod Raw
pub mod Walks
