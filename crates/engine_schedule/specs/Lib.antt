pub mod Next
pub mod Events
