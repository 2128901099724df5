pub mod Integers
pub mod Totals
pub mod Duality
pub mod Listings
pub mod SumSteps
pub mod Examples
pub mod Costs
