pub mod Texts
pub mod Columns
pub mod Forms
