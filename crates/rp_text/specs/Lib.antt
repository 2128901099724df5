pub mod Denotation
pub mod Plain
