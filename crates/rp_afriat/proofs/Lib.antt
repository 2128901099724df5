pub mod Fillings
pub mod Given
pub mod Leasts
pub mod Lists
pub mod Minima
pub mod Quotients
pub mod SameVerdicts
pub mod Widths
