pub mod LeastCosts
pub mod ProgramLimits
pub mod Spent
