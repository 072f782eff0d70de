pub mod Laws
pub mod Closure
pub mod Bits
pub mod ComponentLaws
pub mod Equals
