pub mod OneNumber
pub mod ConsistentSets
pub mod FallingRanks
pub mod BoundingValues
pub mod ClosedWeakWalks
pub mod PumpIndex
mod KeptExamples
mod LevelExamples
mod StepExamples
mod WalkLevelExamples
mod ViolationExamples
mod OrderExamples
mod PumpExamples
