pub mod BoundReads
pub mod DemandReads
pub mod EntryReads
pub mod GoodReads
pub mod PointReads
pub mod RandomReads
pub mod ShareReads
pub mod WelfareReads
