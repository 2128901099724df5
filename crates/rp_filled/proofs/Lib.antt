pub mod FoundLemmas
pub mod CertificateLemmas
pub mod CostLemmas
