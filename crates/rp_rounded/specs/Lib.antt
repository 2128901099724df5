pub mod Reduced
pub mod Rounded
