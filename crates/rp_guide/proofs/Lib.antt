pub mod GainsLemmas
pub mod WordLemmas
