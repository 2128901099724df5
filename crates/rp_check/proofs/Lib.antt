pub mod DemandClauses
pub mod MarkedSets
pub mod SetLists
pub mod SoundBounds
pub mod SoundItems
pub mod SoundRandom
pub mod WelfareClauses
