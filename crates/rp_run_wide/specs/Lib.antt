pub mod Filling
pub mod FitHelping
pub mod Helping
pub mod InnerRan
