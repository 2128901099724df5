pub mod InnerBits
pub mod Closure
pub mod InnerSearch
pub mod Steps
pub mod Violation
