pub mod BoundValue
pub mod DemandValue
pub mod Limits
pub mod RandomValue
