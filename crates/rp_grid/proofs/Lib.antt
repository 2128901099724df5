pub mod Cut
pub mod Exchange
pub mod HeldLemmas
pub mod Memory
pub mod RowLemmas
pub mod SharedPlaces
pub mod Sizes
