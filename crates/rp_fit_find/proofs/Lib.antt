pub mod Fits
pub mod Certificates
pub mod ByCosts
