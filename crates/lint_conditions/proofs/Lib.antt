pub mod Laws
pub mod Refines
pub mod More
