pub mod Cheapest
pub mod LowerBounds
