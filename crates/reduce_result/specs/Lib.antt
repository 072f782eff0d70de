pub mod Result
pub mod Last
