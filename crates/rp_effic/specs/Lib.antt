pub mod InnerBracket
pub mod InnerCycles
pub mod InnerLeft
pub mod Monotone
pub mod InnerRatioOrder
pub mod InnerRatios
pub mod InnerWeakSteps
pub mod EfficiencyVerdict
