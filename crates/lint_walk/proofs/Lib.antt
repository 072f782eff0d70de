pub mod Laws
pub mod Found
pub mod Refines
pub mod Sizes
