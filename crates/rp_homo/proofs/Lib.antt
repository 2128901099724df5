pub mod Unreduced
pub mod Steps
pub mod Walks
pub mod Verdicts
pub mod SameVerdicts
