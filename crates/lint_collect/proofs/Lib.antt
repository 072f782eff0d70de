pub mod Laws
pub mod Array
