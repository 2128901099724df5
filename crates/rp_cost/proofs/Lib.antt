pub mod AskedFacts
pub mod AtMost
pub mod Enough
pub mod Listings
pub mod NothingBelow
pub mod OuterLaws
pub mod OutputFacts
pub mod ProducerBounds
pub mod TechFacts
mod Examples
