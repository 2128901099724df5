pub mod InnerPivots
pub mod InnerReadOff
pub mod Pivots
pub mod Programs
pub mod ReadOff
pub mod Reduced
