mod AmountLemmas
mod LineLemmas
mod PlacesLemmas
pub mod SmallLemmas
mod TextLemmas
