pub mod StepSums
pub mod LevelSound
pub mod PumpSound
pub mod ManyWordProducts
