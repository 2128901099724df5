pub mod CheckVerdict
pub mod DemandFailure
pub mod InnerSets
pub mod ItemFailure
pub mod LevelsFailure
pub mod RandomCheckVerdict
pub mod RandomCheckWithin
pub mod WelfareFailure
