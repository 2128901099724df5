pub mod ShareLemmas
pub mod OneFinding
pub mod TypeLemmas
pub mod ToCome
pub mod EarlierFronts
pub mod MetFronts
pub mod TypeSearch
pub mod InParts
