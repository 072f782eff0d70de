pub mod Laws
pub mod Lawful
pub mod Refines
