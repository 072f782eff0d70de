pub mod Kinds
pub mod Reasons
pub mod Readable
pub mod Lists
