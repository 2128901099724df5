pub mod Twos
pub mod Given
