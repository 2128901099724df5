pub mod CertificateValue
pub mod Denoted
pub mod InnerItems
pub mod Limits
