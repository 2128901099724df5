mod CommandLemmas
mod FormsTaken
mod KeptRows
mod KeptWalk
mod Leaves
pub mod MatchesNameALine
mod PlacesTaken
mod PlainWords
mod ReadRows
pub mod ShapeLemmas
mod UsesTaken
pub mod WordLemmas
pub mod WordLoops
