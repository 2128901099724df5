pub mod Sizes
pub mod Counts
mod Examples
