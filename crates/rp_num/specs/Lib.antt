pub mod Below
pub mod Fraction
pub mod Decimal
pub mod Spelled
