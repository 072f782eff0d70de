pub mod Laws
pub mod Compose
