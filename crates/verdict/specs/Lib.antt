pub mod Demand
pub mod Judged
pub mod Least
pub mod Members
pub mod Passes
pub mod Points
pub mod Stretches
pub mod Sweeps
