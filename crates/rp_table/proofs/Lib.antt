pub mod SumsBelow
pub mod SpendingLaws
pub mod CostLimits
mod Examples
