pub mod Hints
pub mod Codes
pub mod Gains
pub mod Pages
