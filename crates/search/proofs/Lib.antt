pub mod Walk
pub mod Sorted
pub mod Budget
pub mod Cases
pub mod Visits
