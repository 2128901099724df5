pub mod BelowLists
pub mod DemandLemmas
pub mod ListSteps
pub mod SupportPrices
