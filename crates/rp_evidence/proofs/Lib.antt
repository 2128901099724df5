pub mod AfriatClasses
pub mod AfriatModels
pub mod AfriatStages
pub mod AfriatSums
pub mod AfriatTheorem
mod AfriatExamples
pub mod CountLists
pub mod Counts
mod HomotheticExamples
pub mod DemandBounds
pub mod DemandLaws
pub mod DemandMixtures
pub mod Enumerations
pub mod EqualOrReached
mod DemandExamples
pub mod InnerDemand
pub mod InnerExists
pub mod Index
pub mod IndexExists
pub mod IndexThreshold
mod IndexExamples
pub mod Levels
pub mod ClauseLemmas
pub mod ClosedWalks
pub mod OwnAfriat
pub mod OwnLevels
pub mod Places
pub mod StrictStarts
pub mod SupportingDemands
pub mod Reachability
pub mod SameAfriat
pub mod Ratios
pub mod SameCosts
pub mod SameDemand
pub mod SameIndex
pub mod SameItems
pub mod SameProducts
pub mod SameSums
mod Examples
pub mod Utilities
pub mod Values
pub mod Violations
pub mod Walks
pub mod WelfareLaws
pub mod WelfareModels
pub mod WelfarePrograms
pub mod BitLemmas
pub mod Rounds
pub mod Tabulated
pub mod Throughs
