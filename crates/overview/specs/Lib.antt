pub mod Picture
pub mod Standing
