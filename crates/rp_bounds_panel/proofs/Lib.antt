mod RowLemmas
pub mod SameSides
pub mod SameBounds
