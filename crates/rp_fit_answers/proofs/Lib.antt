pub mod CertificateLemmas
pub mod ChoiceLemmas
pub mod FileLemmas
pub mod Laws
pub mod LoadLemmas
