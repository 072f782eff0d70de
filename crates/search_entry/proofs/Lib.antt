pub mod Start
pub mod Laws
pub mod Finish
pub mod Rewriting
pub mod Entry
