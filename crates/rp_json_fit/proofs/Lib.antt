pub mod FitItemReads
pub mod ItemListLemmas
pub mod NoFloats
pub mod ReadsBack
pub mod TopLemmas
