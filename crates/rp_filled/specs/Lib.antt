pub mod Filled
pub mod FilledCosts
pub mod InnerFound
