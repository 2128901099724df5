pub mod CyclesText
pub mod FitReportText
pub mod KeptText
pub mod LevelWalksText
pub mod LevelsText
pub mod MeanLack
pub mod StepsText
pub mod ViolationsText
