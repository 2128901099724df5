pub mod SameVerdicts
pub mod Steps
pub mod Verdicts
mod Examples
