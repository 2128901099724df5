mod Examples
pub mod Contradictions
pub mod CountMore
pub mod DrawnLemmas
pub mod SpentLemmas
pub mod WordBlocks
pub mod WordLemmas
