pub mod ViolationTests
pub mod GroupSums
pub mod KeptSound
pub mod CountedPairs
