pub mod Arrivals
pub mod Core
pub mod Examples
pub mod Jobs
pub mod Orders
pub mod Schedules
pub mod Theorems
