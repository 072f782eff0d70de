pub mod Result
pub mod Answer
