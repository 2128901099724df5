pub mod Accepted
pub mod AcceptedBounds
pub mod AcceptedItems
pub mod AcceptedRandom
pub mod BoundsFit
pub mod Closed
pub mod OneFinding
pub mod OneRandomFinding
pub mod ItemsFit
pub mod Lists
pub mod Narrow
pub mod RandomFits
pub mod SameValues
pub mod TestsFit
mod Examples
