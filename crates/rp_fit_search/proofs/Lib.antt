pub mod LevelsByRanks
pub mod StepsByRanks
pub mod Alone
