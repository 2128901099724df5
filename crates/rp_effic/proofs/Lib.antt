pub mod CycleTests
pub mod Returns
pub mod Collected
pub mod LeftLemmas
pub mod FirstTrueLemmas
pub mod Indexed
pub mod RowLemmas
pub mod SameVerdicts
