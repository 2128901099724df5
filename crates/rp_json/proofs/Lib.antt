pub mod DataReadBack
pub mod ItemListLemmas
pub mod ItemReads
pub mod LineFeed
pub mod NoFloats
pub mod ReadsBack
pub mod TopLemmas
