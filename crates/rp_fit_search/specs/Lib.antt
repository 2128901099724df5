pub mod Looked
pub mod InnerByRanks
pub mod InnerAlone
