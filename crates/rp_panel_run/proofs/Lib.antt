pub mod WordLemmas
pub mod CauseLemmas
pub mod TurnLemmas
pub mod EndLemmas
pub mod SameRows
pub mod SameBounds
pub mod FrontLemmas
