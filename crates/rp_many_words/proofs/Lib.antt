pub mod FirstWords
pub mod Multiplied
pub mod Compared
