pub mod BoundText
pub mod HeadText
pub mod ListText
pub mod LowestTerms
pub mod MixtureText
