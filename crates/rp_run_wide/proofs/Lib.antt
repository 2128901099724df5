pub mod FillingLemmas
pub mod RanLemmas
