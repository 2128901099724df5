pub mod PairLemmas
pub mod PassedParts
