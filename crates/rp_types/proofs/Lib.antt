pub mod CombinationLemmas
pub mod Determined
pub mod ListedTypes
