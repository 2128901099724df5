pub mod Populations
pub mod SaysOfItems
pub mod SignFacts
pub mod TypesOfPersons
mod Examples
