pub mod Loads
pub mod WalksFailure
pub mod InnerWalks
pub mod StepsFailure
pub mod LevelsFailure
