pub mod AlternatingSums
pub mod CheckLemmas
pub mod LeastLemmas
pub mod LoopLemmas
pub mod MixtureSums
pub mod OrderCells
pub mod OrderLists
pub mod OrderWeights
pub mod ReportLemmas
pub mod SumLemmas
mod Examples
