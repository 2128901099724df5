pub mod Euclid
mod TextExamples
pub mod Texts
