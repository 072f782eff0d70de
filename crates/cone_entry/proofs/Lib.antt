pub mod Laws
pub mod Refines
