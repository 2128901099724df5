pub mod FitDenoted
pub mod FitLimits
pub mod FitValue
pub mod InnerFitItems
