pub mod Laws
pub mod Numbers
pub mod Texts
pub mod Lengths
pub mod Examples
