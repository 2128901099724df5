pub mod GainsLemmas
pub mod NumberLemmas
pub mod RunLemmas
pub mod TurnLemmas
