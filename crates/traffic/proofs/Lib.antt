pub mod Credit
pub mod Rises
pub mod Uses
pub mod Worked
