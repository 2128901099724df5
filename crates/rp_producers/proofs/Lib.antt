pub mod Producers
pub mod SmallCases
mod Examples
