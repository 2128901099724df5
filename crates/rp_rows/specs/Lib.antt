pub mod Asked
pub mod Words
pub mod Verdicts
pub mod Faults
pub mod Floors
pub mod Rows
pub mod RowText
pub mod InnerWriting
