pub mod Laws
pub mod Texts
pub mod Lengths
pub mod Examples
