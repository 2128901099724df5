pub mod Lines
pub mod MeanLack
pub mod PrintedLevels
pub mod Spent
