pub mod Affine
pub mod AfriatUtilities
pub mod Bought
pub mod Chains
pub mod Differences
mod Examples
pub mod FactsOfBundles
pub mod FactsOfEvidence
mod FactsOfPeople
pub mod FactsOfPreferences
mod FactsOfUtilities
pub mod FullTables
pub mod HomotheticChains
pub mod Minima
pub mod MoneyLaws
pub mod OfOnePreference
pub mod Orders
pub mod Potentials
pub mod Rooms
pub mod SaysOfItems
pub mod TableLaws
pub mod TablesOfCosts
pub mod Values
pub mod WelfareBounds
