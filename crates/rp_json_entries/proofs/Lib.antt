pub mod FractionTexts
pub mod ListLemmas
pub mod MemberLemmas
pub mod NumberLemmas
pub mod ShapeDifferences
