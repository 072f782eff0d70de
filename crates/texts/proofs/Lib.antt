pub mod Bool
pub mod Laws
pub mod Ordering
pub mod FromIndex
