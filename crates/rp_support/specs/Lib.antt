pub mod Bounds
pub mod InnerMarks
pub mod InnerStart
pub mod DemandVerdict
