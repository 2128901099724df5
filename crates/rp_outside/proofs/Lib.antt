pub mod Counts
pub mod Flushed
pub mod Fronts
pub mod Growth
pub mod Listed
pub mod Progress
mod Examples
