pub mod BelowLemmas
pub mod Coprime
pub mod Compare
pub mod DecimalText
pub mod FractionText
pub mod Lowest
pub mod PassedOn
pub mod Products
pub mod ReadLemmas
pub mod Repeats
pub mod RowsBelow
pub mod Twos
mod Examples
