pub mod Words
pub mod Quotients
pub mod InnerDivision
