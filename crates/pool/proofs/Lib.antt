pub mod Orders
mod Rises
mod Sinks
mod Roots
mod Ends
mod Bags
pub mod Uses
